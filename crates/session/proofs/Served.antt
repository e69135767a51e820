-- A call in bytes is served: what was read is done, and the answer stands whole in its slice.
use Rattle.std.proofs.Common.{◌≡◌, ℕ, suc, ◌+◌, ◌*◌, ◌<◌, ◌≤◌, min, Bool, true, false, cond, not, ◌&&◌, eqb, ltb, leb, List, [], ◌∷◌, length, get_or, Some, None, Ok, Err, Option, Result, unwrap_or, sym, refl, ap, ◌∙◌, subst, arith}
use Rattle.std.proofs.lemmas.Bool.{and_parts, and_from, leb-true, lt-ltb, le-leb, cond-true, cond_both, false≢true, not-true, eqb-false}
use Rattle.rules.specs.declared.Limits.{Limits}
use Rattle.rules.specs.declared.Call.{Call}
use Rattle.rules.specs.Calls.{refused, State, refusal, answer}
use Rattle.rules.specs.Bounds.{all_below}
use Rattle.wire.specs.Fields.{written, room}
use Rattle.wire.specs.Calls.{field_count, parse_call}
use Rattle.wire.specs.Games.{size_of}
use Rattle.answers.specs.Answers.{answer_bytes}
use Rattle.tables.specs.Layout.{state_words, plan_in, sizes_of}
use Rattle.tables.specs.Means.{Means}
use Rattle.session.specs.Opening.{Lent, lent, SameLengths}
use Rattle.session.specs.Calling.{stage, answer_read, step_read, refused_read, answer_to, state_after, is_refused, ready, WordsFit, Serves, Called}
use Rattle.session.specs.Inner.{Acts}
use Rattle.session.proofs.Readiness.{plan_there, ready_with, all_sized}
use Rattle.session.proofs.Runs.{read_fits}

-- words that each fit
below_all : (b : ℕ) (ws : List ℕ) → ((i : ℕ) → get_or ws i 0 < b) → all_below b ws ≡ true
unfolding all_below
below_all b [] h = refl
below_all b (w ∷ ws) h = and_from (ltb w b) (all_below b ws) (lt-ltb w b (h 0)) (below_all b ws (λ i. h (suc i)))

pub words_fit :
    (m : Lent) → ((i : ℕ) → get_or m.rules i 0 < 4294967296) → ((i : ℕ) → get_or m.state i 0 < 4294967296)
    → ((i : ℕ) → get_or m.scratch i 0 < 4294967296) → ((i : ℕ) → get_or m.answer i 0 < 256) → WordsFit m
words_fit m a b c d = record {
  rules = below_all 4294967296 m.rules a;
  state = below_all 4294967296 m.state b;
  scratch = below_all 4294967296 m.scratch c;
  answer = below_all 256 m.answer d;
}

-- memory that no opening made
pub left_alone : (m : Lent) (q : List ℕ) → WordsFit m → false ≡ ready m → Called m q m 0
left_alone m q fits no-server = record {
  rules = refl;
  lengths = record { rules = refl; state = refl; scratch = refl; answer = refl };
  fits = fits;
  unready = λ h. (refl, refl);
  serves = λ l s h x. absurd (false≢true (no-server ∙ h));
}

few_fields : (k : ℕ) → field_count k ≤ 5
few_fields k =
    cond_both (eqb k 1) 5 _ (λ n. n ≤ 5) (λ e. omega arith)
    (λ e. cond_both (eqb k 5) 2 _ (λ n. n ≤ 5) (λ f. omega arith) (λ f. cond_both (eqb k 6) 4 1 (λ n. n ≤ 5) (λ g. omega arith) (λ g. omega arith)))

refused_at : (s t : Bool) (c : Call) (x y n : ℕ) → Err n ≡ cond s (Err 0) (cond t (Ok c) (Err (min x y))) → n ≤ y
refused_at true t c x y n h = let e : n ≡ 0 = cc in omega arith
refused_at false true c x y n h = let z : ◌≡◌ {A = ℕ} 0 1 = cc in absurd (omega arith)
refused_at false false c x y n h = let e : n ≡ min x y = cc in omega arith

-- a place where bytes cease to be a call is among the first
pub low_place : (q : List ℕ) (n : ℕ) → Err n ≡ parse_call q → n < 4294967296
unfolding parse_call
low_place [] n h = let e : n ≡ 0 = cc in omega arith
low_place (k ∷ bs) n h =
    let c = refused_at (ltb 6 k) (eqb (suc (length bs)) (1 + 4 * field_count k)) _ (suc (length bs)) (1 + 4 * field_count k) n h in
    let f = few_fields k in
    omega (arith, c, f)

-- memory that a server's calls work on
module _ (rules w scratch a q v b : List ℕ) (r : ℕ) (told : Option ℕ) (is : r ≡ unwrap_or told 0) (here : true ≡ ready (lent rules w scratch a)) where
  -- the answer's slice is long enough for any answer
  room_there : (l : Limits) (s : State) → Means rules w l s → (sizes_of l (size_of s.game)).answer ≤ length a
  room_there l s x =
      let e = sym (ready_with (lent rules w scratch a) (plan_in w) (sym (plan_there rules w l s x))) ∙ sym here in
      let p = and_parts (leb (get_or w 6 0) (length rules)) (leb (get_or w 7 0) (length scratch) && leb (get_or w 8 0) (length a)) e in
      let k = leb-true (get_or w 8 0) (length a) (and_parts (leb (get_or w 7 0) (length scratch)) (leb (get_or w 8 0) (length a)) p.1).1 in
      subst (λ y. y ≤ length a) x.head.answer_size k

  answer_fits : (l : Limits) (s : State) → Means rules w l s → (x : Result Call ℕ) → length (answer_bytes (answer_read l s x)) ≤ length a
  unfolding size_of
  answer_fits l s m x = let f = read_fits l s x m.good (all_sized rules w l s m) in let g = room_there l s m in omega (arith, f, g)

  sized : (bs : List ℕ) → length bs ≤ length a → told ≡ room 0 bs a → r ≡ length bs
  unfolding room
  sized bs h e = is ∙ ap (λ o. unwrap_or o 0) (e ∙ cond-true _ (Some (length bs)) None (le-leb (0 + length bs) (length a) (omega arith)))

  -- what a call leaves where bytes were read as x
  record ServesRead (l : Limits) (s : State) (x : Result Call ℕ) : Type 0 where
    means : Means rules v l (step_read l s x)
    size : r ≡ length (answer_bytes (answer_read l s x))
    says : b ≡ written 0 (answer_bytes (answer_read l s x)) a
    keeps : refused_read l s x ≡ true → v ≡ w
    past : (k : ℕ) → state_words (length s.game.start) l.tables l.moves ≤ k → get_or v k 0 ≡ get_or w k 0

  whole :
      (l : Limits) (s : State) (x : Result Call ℕ) → x ≡ parse_call q → ServesRead l s x
      → Serves l s (lent rules w scratch a) q (lent rules v scratch b) r
  unfolding answer_to state_after is_refused size_of
  whole l s x read y = record {
    means = subst (λ z. Means rules v l (step_read l s z)) read y.means;
    size = subst (λ z. r ≡ length (answer_bytes (answer_read l s z))) read y.size;
    says = subst (λ z. b ≡ written 0 (answer_bytes (answer_read l s z)) a) read y.says;
    keeps = λ h. (y.keeps (subst (λ z. refused_read l s z ≡ true) (sym read) h), refl);
    past = record { rules = λ k h. refl; state = y.past; scratch = λ k h. refl };
  }

  module _ (long : SameLengths (lent rules w scratch a) (lent rules v scratch b)) (fits : WordsFit (lent rules v scratch b)) where
    refused_low : (n : ℕ) → not (eqb n 0) ≡ true → 0 < n
    refused_low n h = let e = eqb-false n 0 (not-true (eqb n 0) h) in omega arith

    -- what was done, once bytes were read as x
    module _ (x : Result Call ℕ) (read : x ≡ parse_call q) where
      as_read :
          ((l : Limits) (s : State) → Means rules w l s → ServesRead l s x) → Called (lent rules w scratch a) q (lent rules v scratch b) r
      as_read serves = record {
        rules = refl;
        lengths = long;
        fits = fits;
        unready = λ h. absurd (false≢true (sym h ∙ sym here));
        serves = λ l s h m. served l s (serves l s m);
      }
        where
          served : (l : Limits) (s : State) → ServesRead l s x → Serves l s (lent rules w scratch a) q (lent rules v scratch b) r
          served l s y = whole l s x read y

    pub acted : (c : Call) → Ok c ≡ parse_call q → Acts rules w a c v b told → Called (lent rules w scratch a) q (lent rules v scratch b) r
    acted c e acts =
        as_read (Ok c) e
        (λ l s m.
        let x = acts.changes l s m in
        let y = acts.writes l s m in
        let fit = answer_fits l s m (Ok c) in
        record {
          means = x.means;
          size = sized (answer_bytes (answer stage l s c)) fit y.0;
          says = y.1 fit;
          keeps = λ h. x.keeps (refused_low (refusal stage l s c) h);
          past = x.past;
        })

    pub misread :
        (n : ℕ) → Err n ≡ parse_call q → v ≡ w → told ≡ room 0 (answer_bytes (refused (record { number = 1; place = n }))) a
        → b ≡ written 0 (answer_bytes (refused (record { number = 1; place = n }))) a
        → Called (lent rules w scratch a) q (lent rules v scratch b) r
    misread n e same whole-size bytes =
        as_read (Err n) e
        (λ l s m. record {
          means = subst (λ y. Means rules y l s) (sym same) m;
          size = sized (answer_bytes (refused (record { number = 1; place = n }))) (answer_fits l s m (Err n)) whole-size;
          says = bytes;
          keeps = λ h. same;
          past = λ k h. ap (λ y. get_or y k 0) same;
        })

-- the same state, answer and size under other names
pub acts_as :
    (rules w a : List ℕ) (c : Call) (v v' b b' : List ℕ) (t t' : Option ℕ) → v' ≡ v → b' ≡ b → t' ≡ t → Acts rules w a c v b t → Acts rules w a c v' b' t'
acts_as rules w a c v v' b b' t t' e f g x =
    subst (λ y. Acts rules w a c y b' t') (sym e) (subst (λ y. Acts rules w a c v y t') (sym f) (subst (Acts rules w a c v b) (sym g) x))
