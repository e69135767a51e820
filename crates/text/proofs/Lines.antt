-- The lines of the grammar are those of the seven forms.
use Rattle.std.proofs.Common.{◌≡◌, ℕ, zero, suc, ◌+◌, ◌<◌, ◌≤◌, true, ◌⊎◌, List, [], ◌∷◌, ◌++◌, length, take, Ok, Err, Result, sym, refl, ap, ◌∙◌, subst, inl, inr, ⊎_elim, arith}
use Rattle.std.proofs.lemmas.List.{length-append, append_assoc, append-nil, take_at}
use Rattle.std.specs.List.{AllByRecursion}
use Rattle.rules.specs.declared.Call.{Call}
use Rattle.rules.specs.declared.Call.TheVariants.{Sit, Play, Ticks, See, May, Back, CanForce}
use Rattle.text.specs.Grammar.{Piece, word, number, pieces, blank, all, Spells, Written, end, piece, IsLine, ReadsAs, Reads}
use Rattle.text.specs.Reader.{Form, done, the, ask, fit, sit_form, play_form, ticks_form, see_form, may_form, back_form, force_form, better, best_of, call_of}
use Rattle.text.proofs.Forms.{Good, Says, Proper, fit_good, better_good}

-- whatever call a form comes to has the pieces before, and those of the form
abbrev pub Names : Form → List Piece → Type 0
Names (done c) before = pieces c ≡ before
Names (the w f) before = Names f (before ++ (word w ∷ []))
Names (ask f) before = (n : ℕ) → Names (f n) (before ++ (number n ∷ []))

-- a line of the form is the pieces of its call, so written
says_written :
    (f : Form) (before : List Piece) → Names f before → (least : ℕ) (c : Call) (xs : List ℕ) → Says f least c xs →
    (after : List Piece) × (pieces c ≡ before ++ after) × Written least after xs
says_written (done d) before e least c xs h = ([], sym (ap pieces h.0) ∙ e ∙ sym (append-nil before), end xs h.1)
says_written (the w f) before e least c xs h =
    let t = says_written f (before ++ (word w ∷ [])) e 1 c h.rest h.then in (
      word w ∷ t.0,
      t.1 ∙ append_assoc before (word w ∷ []) t.0,
      subst (λ ys. Written least (word w ∷ t.0) ys) (sym h.cut) (piece h.gap h.ds h.rest h.enough h.white h.spelled.1 t.2),
    )
says_written (ask f) before e least c xs h =
    let n : ℕ = h.value in
    let t = says_written (f n) (before ++ (number n ∷ [])) (e n) 1 c h.rest h.then in (
      number n ∷ t.0,
      t.1 ∙ append_assoc before (number n ∷ []) t.0,
      subst (λ ys. Written least (number n ∷ t.0) ys) (sym h.cut) (piece h.gap h.ds h.rest h.enough h.white h.spelled t.2),
    )

-- the form leads to call c by these pieces
abbrev pub Leads : Form → List Piece → Call → Type 0
Leads (done d) ps c = (ps ≡ []) × (d ≡ c)
Leads (the w f) ps c = (qs : List Piece) × (ps ≡ word w ∷ qs) × Leads f qs c
Leads (ask f) ps c = (n : ℕ) × (qs : List Piece) × (ps ≡ number n ∷ qs) × Leads (f n) qs c

-- what a line that is so written begins with
unwrite_end : {least : ℕ} {xs : List ℕ} → Written least [] xs → all blank xs ≡ true
unwrite_end (end xs h) = h

pub unwrite :
    {least : ℕ} {p : Piece} {ps : List Piece} {xs : List ℕ} → Written least (p ∷ ps) xs →
    (gap : List ℕ) × (ds : List ℕ) × (rest : List ℕ) × (xs ≡ gap ++ (ds ++ rest)) × (least ≤ length gap) × (all blank gap ≡ true) × Spells p ds × Written 1 ps rest
unwrite (piece gap ds rest enough white spelled more) = (gap, ds, rest, refl, enough, white, spelled, more)

-- and pieces that the form leads along, so written, are a line of the form
written_says : (f : Form) (ps : List Piece) (c : Call) → Leads f ps c → (least : ℕ) (xs : List ℕ) → Written least ps xs → Says f least c xs
written_says (done d) ps c l least xs h = (l.1, unwrite_end (subst (λ qs. Written least qs xs) l.0 h))
written_says (the w f) ps c l least xs h =
    let u = unwrite (subst (λ qs. Written least qs xs) l.1 h) in
    record {
      value = 0;
      gap = u.0;
      ds = u.1;
      rest = u.2;
      cut = u.3;
      enough = u.4;
      white = u.5;
      spelled = (refl, u.6);
      then = written_says f l.0 c l.2 1 u.2 u.7;
    }
written_says (ask f) ps c l least xs h =
    let u = unwrite (subst (λ qs. Written least qs xs) l.2 h) in
    record {
      value = l.0;
      gap = u.0;
      ds = u.1;
      rest = u.2;
      cut = u.3;
      enough = u.4;
      white = u.5;
      spelled = u.6;
      then = written_says (f l.0) l.1 c l.3 1 u.2 u.7;
    }

-- the form that a call has
abbrev pub form_of : Call → Form
form_of (Sit n) = sit_form
form_of (Play t m v) = play_form
form_of (Ticks n) = ticks_form
form_of (See t) = see_form
form_of (May t) = may_form
form_of (Back t n) = back_form
form_of (CanForce t m k d) = force_form

-- each form leads to its calls by their pieces
leads : (c : Call) → Leads (form_of c) (pieces c) c
unfolding pieces
leads (Sit n) = (_, refl, (n, _, refl, (refl, refl)))
leads (Play t m v) = (_, refl, (t, _, refl, (m, _, refl, (v.rule, _, refl, (v.first, _, refl, (v.second, _, refl, (refl, refl)))))))
leads (Ticks n) = (_, refl, (n, _, refl, (refl, refl)))
leads (See t) = (_, refl, (t, _, refl, (refl, refl)))
leads (May t) = (_, refl, (t, _, refl, (refl, refl)))
leads (Back t n) = (_, refl, (t, _, refl, (n, _, refl, (refl, refl))))
leads (CanForce t m k d) = (_, refl, (_, refl, (t, _, refl, (m, _, refl, (k, _, refl, (d, _, refl, (refl, refl)))))))

-- a call's line is a line of its form
pub line_says : (c : Call) (line : List ℕ) → IsLine c line → Says (form_of c) 0 c line
line_says c line h = written_says (form_of c) (pieces c) c (leads c) 0 line h

-- and the other way round
says_line : (f : Form) → Names f [] → (c : Call) (line : List ℕ) → Says f 0 c line → IsLine c line
says_line f names c line h =
    let t = says_written f [] names 0 c line h in
    subst (λ ps. Written 0 ps line) (sym t.1) t.2

-- no word of the seven forms begins with white space
pub proper : (c : Call) → Proper (form_of c)
proper (Sit n) = (λ xs. refl, λ v. tt)
proper (Play t m v) = (λ xs. refl, λ t m r x y. tt)
proper (Ticks n) = (λ xs. refl, λ v. tt)
proper (See t) = (λ xs. refl, λ v. tt)
proper (May t) = (λ xs. refl, λ v. tt)
proper (Back t n) = (λ xs. refl, λ t n. tt)
proper (CanForce t m k d) = (λ xs. refl, (λ xs. refl, λ t m k d. tt))

abbrev lines : Form → Call → List ℕ → Type 0
lines f c xs = Says f 0 c xs

-- the lines of L, and those of some forms
abbrev Any : (Call → List ℕ → Type 0) → List Form → Call → List ℕ → Type 0
Any L [] = L
Any L (f ∷ fs) = Any (λ c xs. L c xs ⊎ lines f c xs) fs

-- the best of several answers is right for all their forms
best_good :
    (L : Call → List ℕ → Type 0) (r : Result Call ℕ) (fs : List Form) (line : List ℕ) → AllByRecursion Proper fs → Good L line 0 r →
    Good (Any L fs) line 0 (best_of r fs line)
best_good L r [] line ps h = h
best_good L r (f ∷ fs) line ps h =
    best_good (λ c xs. L c xs ⊎ lines f c xs) (better r (fit f 0 line 0)) fs line ps.1
    (better_good L (lines f) line 0 r (fit f 0 line 0) h (fit_good f ps.0 0 (omega arith) line 0 (omega arith)))

abbrev later_forms : List Form
later_forms = play_form ∷ ticks_form ∷ see_form ∷ may_form ∷ back_form ∷ force_form ∷ []

abbrev Said : Call → List ℕ → Type 0
Said = Any (lines sit_form) later_forms

-- the lines of the seven forms are the lines of the grammar
line_said : (c : Call) (xs : List ℕ) → IsLine c xs → Said c xs
line_said (Sit n) xs h = inl (inl (inl (inl (inl (inl (line_says (Sit n) xs h))))))
line_said (Play t m v) xs h = inl (inl (inl (inl (inl (inr (line_says (Play t m v) xs h))))))
line_said (Ticks n) xs h = inl (inl (inl (inl (inr (line_says (Ticks n) xs h)))))
line_said (See t) xs h = inl (inl (inl (inr (line_says (See t) xs h))))
line_said (May t) xs h = inl (inl (inr (line_says (May t) xs h)))
line_said (Back t n) xs h = inl (inr (line_says (Back t n) xs h))
line_said (CanForce t m k d) xs h = inr (line_says (CanForce t m k d) xs h)

said_line : (c : Call) (xs : List ℕ) → Said c xs → IsLine c xs
unfolding pieces
said_line c xs =
    ⊎_elim (⊎_elim (⊎_elim (⊎_elim (⊎_elim (⊎_elim (says_line sit_form (λ n. refl) c xs) (says_line play_form (λ t m r x y. refl) c xs))
    (says_line ticks_form (λ n. refl) c xs)) (says_line see_form (λ t. refl) c xs)) (says_line may_form (λ t. refl) c xs))
    (says_line back_form (λ t n. refl) c xs)) (says_line force_form (λ t m k d. refl) c xs)

-- the same lines, said otherwise
pub good_like :
    {X : Type 0} (L M : X → List ℕ → Type 0) → ((c : X) (xs : List ℕ) → L c xs → M c xs) → ((c : X) (xs : List ℕ) → M c xs → L c xs) →
    (bs : List ℕ) (i : ℕ) (r : Result X ℕ) → Good L bs i r → Good M bs i r
good_like L M to from bs i (Ok c) h = to c bs h
good_like L M to from bs i (Err n) h = record {
  front = h.front;
  left = h.left;
  cut = h.cut;
  place = h.place;
  live = (h.live.0, h.live.1, to h.live.0 (h.front ++ h.live.1) h.live.2);
  dead = λ c xs a t. h.dead c xs a (from c (h.front ++ xs) t);
}

-- the reader is right, in the terms of the cut
call_good : (line : List ℕ) → Good IsLine line 0 (call_of line)
unfolding call_of
call_good line =
    good_like Said IsLine said_line line_said line 0 (call_of line)
    (best_good (lines sit_form) (fit sit_form 0 line 0) later_forms line
    (proper (Play 0 0 (record { rule = 0; first = 0; second = 0 })), (proper (Ticks 0), (proper (See 0), (proper (May 0), (proper (Back 0 0), (proper (CanForce 0 0 0 0), tt))))))
    (fit_good sit_form (proper (Sit 0)) 0 (omega arith) line 0 (omega arith)))

-- what is longer than the front goes on as the line does
longer_front :
    (front left : List ℕ) (m : ℕ) → length front < m → m ≤ length (front ++ left) →
    (more : List ℕ) × (take m (front ++ left) ≡ front ++ more) × ((rest : List ℕ) → take 1 (more ++ rest) ≡ take 1 left)
longer_front [] [] m l u = absurd (omega arith)
longer_front [] (b ∷ left) zero l u = absurd (omega arith)
longer_front [] (b ∷ left) (suc m) l u = (b ∷ take m left, refl, λ rest. refl)
longer_front (x ∷ front) left zero l u = absurd (omega arith)
longer_front (x ∷ front) left (suc m) l u =
    let r = longer_front front left m (omega arith) (omega arith) in
    (r.0, ap (λ xs. x ∷ xs) r.1, r.2)

-- and in the terms of the grammar
pub good_reads : {X : Type 0} (L : X → List ℕ → Type 0) (line : List ℕ) (r : Result X ℕ) → Good L line 0 r → ReadsAs L line r
good_reads L line (Ok c) h = h
good_reads L line (Err n) h =
    let size : length line ≡ length h.front + length h.left = ap length h.cut ∙ length-append h.front h.left in
    let front : take n line ≡ h.front = ap (take n) h.cut ∙ take_at h.front h.left n (omega (arith, h.place)) in (
      λ c t. h.dead c h.left refl (subst (λ xs. L c xs) h.cut t),
      omega (arith, h.place),
      (h.live.0, h.live.1, subst (λ xs. L h.live.0 (xs ++ h.live.1)) (sym front) h.live.2),
      λ m l u t.
          let r = longer_front h.front h.left m (omega (arith, h.place)) (omega (arith, length-append h.front h.left)) in
          let here : take m line ++ t.1 ≡ h.front ++ (r.0 ++ t.1) =
          ap (λ xs. xs ++ t.1) (ap (take m) h.cut ∙ r.1) ∙ append_assoc h.front r.0 t.1 in
          h.dead t.0 (r.0 ++ t.1) (r.2 t.1) (subst (λ xs. L t.0 xs) here t.2),
    )

-- reading a line answers what the grammar says
pub reads : (line : List ℕ) → Reads line (call_of line)
reads line = good_reads IsLine line (call_of line) (call_good line)
