-- What reading a text answers, by the machine.
use Rattle.std.proofs.Common.{◌≡◌, ℕ, suc, ◌+◌, ◌<◌, ◌≤◌, Bool, true, false, cond, eqb, ltb, ◌⊎◌, List, [], ◌∷◌, ◌++◌, length, get_or, take, drop, Some, None, Ok, Option, sym, refl, ap, ◌∙◌, subst, inl, inr, arith}
use Rattle.std.proofs.lemmas.List.{append-nil, append_assoc, take_all, drop_all, take-take, take-append-drop, drop_more, get_or-take, length-take-le}
use Rattle.std.proofs.lemmas.Bool.{cases_Bool, lt-ltb, le-ltb}
use Rattle.rules.specs.Rules.{Game}
use Rattle.wire.specs.Games.{game_bytes, parse_game}
use Rattle.wire.proofs.GamesRead.{game_reads_back}
use Rattle.text.specs.Grammar.{digit, Written, FrontOf}
use Rattle.game_text.specs.declared.progress.Stage.TheVariants.{End}
use Rattle.game_text.specs.declared.progress.Progress.{Progress}
use Rattle.game_text.specs.Text.{IsText, game_pieces, blanked}
use Rattle.game_text.specs.Filling.{filled}
use Rattle.game_text.specs.Machine.{State, Machine, Lexer, gap, comment, digits, letters, Outcome, and_then, ends, look, awaited, settled, added, more_digits, more_letters, step, feed, is_end, went_on, fault_at, failed, at_end, reading, read, start, beginning, expecting, expected_at, expected_by, expected_at_end}
use Rattle.game_text.specs.Theorems.{Means, OneGameAText}
use Rattle.game_text.proofs.Runs.{run}
use Rattle.game_text.proofs.Pieces.{clash}
use Rattle.game_text.proofs.GameRuns.{between, game_run}
use Rattle.game_text.proofs.GameTaken.{game_taken}
use Rattle.game_text.proofs.Feeding.{machine, state, Fed, forward}
use Rattle.game_text.proofs.FeedingBack.{then_some, same_some, backward, over_inv, on_inv, digits_inv}
use Rattle.game_text.proofs.Completing.{Alive, completed}

-- the machine at the end of a game
abbrev the_end : Game → List ℕ → State
the_end g old = between End (length g.start) (length g.rules) 0 (game_bytes g) 0 old

-- the text of a game is taken to the end
complete : (g : Game) (text old : List ℕ) → IsText g text → Fed (start old) text (the_end g old)
complete g text old t = forward text gap beginning old (game_pieces g) (the_end g old) t.1 (game_run g old t.0)

-- what is taken to the end is the text of a game
pub record Sound (text old : List ℕ) (s : State) : Type 0 where
  pub g : Game
  pub is : IsText g text
  pub same : s ≡ the_end g old

sound : (text old : List ℕ) (s : State) → Fed (start old) text s → is_end s.at.stage ≡ true → Sound text old s
sound text old s f z =
    let b = backward text gap beginning old s tt f in
    let t = game_taken b.ps old s b.on z in
    record {
      g = t.0;
      is = (t.2, subst (λ ps. Written 0 ps (blanked false text)) t.1 b.left);
      same = same_some s (the_end t.0 old) (sym b.on ∙ ap (run (state beginning old)) t.1 ∙ game_run t.0 old t.2);
    }

-- feeding in two turns
feed_append : (u v : List ℕ) (m n : Machine) → feed m u ≡ Some n → feed m (u ++ v) ≡ feed n v
unfolding feed
feed_append [] v m n e = ap (λ k. feed k v) (same_some m n e)
feed_append (b ∷ u) v m n e =
    let f = then_some (step m b) (λ k. feed k u) n e in
    ap (λ x. and_then x (λ k. feed k (u ++ v))) f.1 ∙ feed_append u v f.0 n f.2

-- where reading stops: at the end, or before
record Whole (m : Machine) (t : List ℕ) (i : ℕ) : Type 0 where
  n : Machine
  fed : feed m t ≡ Some n
  is : reading m t i ≡ at_end n (settled n.lexer n.at n.memory) (i + length t)

record Cut (m : Machine) (t : List ℕ) (i : ℕ) : Type 0 where
  j : ℕ
  n : Machine
  inside : j < length t
  front : feed m (take j t) ≡ Some n
  wrong : step n (get_or t j 0) ≡ None
  is : reading m t i ≡ failed (i + j) n.at n.memory

stops : (t : List ℕ) (m : Machine) (i : ℕ) → Whole m t i ⊎ Cut m t i
unfolding reading feed
stops [] m i = let z : i ≡ i + 0 = omega arith in inl (record { n = m; fed = refl; is = ap (λ k. at_end m (settled m.lexer m.at m.memory) k) z })
stops (b ∷ t) m i = go (step m b) refl (λ n. stops t n (i + 1))
  where
    go : (x : Option Machine) → step m b ≡ x → ((n : Machine) → Whole n t (i + 1) ⊎ Cut n t (i + 1)) → Whole m (b ∷ t) i ⊎ Cut m (b ∷ t) i
    go None e r =
        let z : i ≡ i + 0 = omega arith in
        inr (record { j = 0; n = m; inside = omega arith; front = refl; wrong = e; is = ap (λ x. went_on m x (λ k. reading k t (i + 1)) i) e ∙ ap (λ k. failed k m.at m.memory) z })
    go (Some n) e r =
        elim (r n) [
          | inl w ↦
              let z : i + 1 + length t ≡ i + suc (length t) = omega arith in
              inl (record {
                n = w.n;
                fed = ap (λ x. and_then x (λ k. feed k t)) e ∙ w.fed;
                is = ap (λ x. went_on m x (λ k. reading k t (i + 1)) i) e ∙ w.is ∙ ap (λ k. at_end w.n (settled w.n.lexer w.n.at w.n.memory) k) z;
              })
          | inr c ↦
              let z : i + 1 + c.j ≡ i + suc c.j = omega arith in
              inr (record {
                j = suc c.j;
                n = c.n;
                inside = omega (arith, c.inside);
                front = ap (λ x. and_then x (λ k. feed k (take c.j t))) e ∙ c.front;
                wrong = c.wrong;
                is = ap (λ x. went_on m x (λ k. reading k t (i + 1)) i) e ∙ c.is ∙ ap (λ k. failed k c.n.at c.n.memory) z;
              })
        ]

-- every machine that was fed is alive
alive_blank : (c : Bool) (p : Progress) → Alive (cond c comment gap) p
alive_blank true p = tt
alive_blank false p = tt

alive_comment : (c : Bool) (p : Progress) → Alive (cond c gap comment) p
alive_comment true p = tt
alive_comment false p = tt

alive_digits : (v b : ℕ) (p : Progress) (y : Lexer) → more_digits v b p ≡ Some y → Alive y p
alive_digits v b p y e = let f = digits_inv v b p y e in subst (λ x. Alive x p) f.2 f.1

alive_letters : (l : List ℕ) (b : ℕ) (p : Progress) (y : Lexer) → more_letters l b p ≡ Some y → Alive y p
alive_letters l b p y e =
    let f = then_some (look false (awaited p.stage p) (l ++ (b ∷ []))) (λ w. Some (letters (l ++ (b ∷ [])))) y e in subst (λ x. Alive x p) (same_some _ y f.2) (f.0, f.1)

alive_added : (x : Lexer) (b : ℕ) (p : Progress) (y : Lexer) → added x b p ≡ Some y → Alive y p
alive_added gap b p y e = go (digit b) e
  where
    go : (d : Bool) → cond d (more_digits 0 b p) (more_letters [] b p) ≡ Some y → Alive y p
    go true e = alive_digits 0 b p y e
    go false e = alive_letters [] b p y e
alive_added comment b p y e = subst (λ x. Alive x p) (same_some comment y e) tt
alive_added (digits v) b p y e = alive_digits v b p y e
alive_added (letters l) b p y e = alive_letters l b p y e

alive_open :
    (x : Lexer) (p : Progress) (memory : List ℕ) (b : ℕ) (n : Machine)
    → cond (ends b) (and_then (settled x p memory) (λ s. Some (machine (cond (eqb b 35) comment gap) s.at s.memory))) (and_then (added x b p) (λ z. Some (machine z p memory))) ≡ Some n
    → Alive n.lexer n.at
alive_open x p memory b n e =
    elim (cases_Bool (ends b)) [
      | inl h ↦ let f = over_inv x b p memory n e h in subst (λ (k : Machine). Alive k.lexer k.at) f.2 (alive_blank (eqb b 35) f.0.at)
      | inr h ↦ let f = on_inv x b p memory n e h in subst (λ (k : Machine). Alive k.lexer k.at) f.2 (alive_added x b p f.0 f.1)
    ]

alive_step : (x : Lexer) (p : Progress) (memory : List ℕ) (b : ℕ) (n : Machine) → step (machine x p memory) b ≡ Some n → Alive n.lexer n.at
alive_step gap p memory b n e = alive_open gap p memory b n e
alive_step comment p memory b n e = subst (λ (k : Machine). Alive k.lexer k.at) (same_some _ n e) (alive_comment (eqb b 10) p)
alive_step (digits v) p memory b n e = alive_open (digits v) p memory b n e
alive_step (letters l) p memory b n e = alive_open (letters l) p memory b n e

alive : (t : List ℕ) (m n : Machine) → Alive m.lexer m.at → feed m t ≡ Some n → Alive n.lexer n.at
unfolding feed
alive [] m n a e = subst (λ (k : Machine). Alive k.lexer k.at) (same_some m n e) a
alive (b ∷ t) m n a e = let f = then_some (step m b) (λ k. feed k t) n e in alive t f.0 n (alive_step m.lexer m.at m.memory b f.0 f.1) f.2

-- a front that is fed is the front of a game's text
fed_front : (u old : List ℕ) (n : Machine) → feed (start old) u ≡ Some n → FrontOf IsText u
fed_front u old n e =
    let c = completed n.lexer n.at n.memory (alive u (start old) n tt e) in
    let f : Fed (start old) (u ++ c.text) c.to = record { to = c.fed.to; fed = feed_append u c.text (start old) n e ∙ c.fed.fed; settles = c.fed.settles } in
    let s = sound (u ++ c.text) old c.to f c.over in
    (s.g, c.text, s.is)

-- no game's text goes on past a byte that doesn't fit
not_past : (u v old : List ℕ) (b : ℕ) (n : Machine) (g : Game) → feed (start old) u ≡ Some n → step n b ≡ None → IsText g (u ++ (b ∷ v)) → ⊥
unfolding feed
not_past u v old b n g e w t =
    let f = complete g (u ++ (b ∷ v)) old t in
    let none : feed (start old) (u ++ (b ∷ v)) ≡ None = feed_append u (b ∷ v) (start old) n e ∙ ap (λ x. and_then x (λ k. feed k v)) w in
    let z : ◌≡◌ {A = ℕ} 0 1 = none_some (feed (start old) (u ++ (b ∷ v))) f.to none f.fed in
    omega arith
  where
    none_some : (o : Option Machine) (m : Machine) → o ≡ None → o ≡ Some m → ◌≡◌ {A = ℕ} 0 1
    none_some o m x y = (cc)

-- a longer front has that byte too
longer : (text : List ℕ) (j m : ℕ) (rest : List ℕ) → j < m → m ≤ length text → (v : List ℕ) × (take m text ++ rest ≡ take j text ++ (get_or text j 0 ∷ v))
longer text j m rest h l =
    let v : List ℕ = drop (j + 1) (take m text) ++ rest in
    let long : length (take m text) ≡ m = length-take-le m text l in
    let cut : take j text ++ drop j (take m text) ≡ take m text = ap (λ x. x ++ drop j (take m text)) (sym (take-take j m text (omega arith))) ∙ take-append-drop j (take m text) in
    let at : drop j (take m text) ≡ get_or text j 0 ∷ drop (j + 1) (take m text) =
    drop_more (take m text) j 0 (omega arith) ∙ ap (λ b. b ∷ drop (j + 1) (take m text)) (get_or-take m text j 0 h)
    in
    (v, ap (λ x. x ++ rest) (sym cut ∙ ap (λ x. take j text ++ x) at) ∙ append_assoc (take j text) (get_or text j 0 ∷ drop (j + 1) (take m text)) rest)

-- reading stops at a byte
cut_means : (text old : List ℕ) (c : Cut (start old) text 0) → Means text old (fault_at c.j c.n.at) c.n.memory
unfolding expected_at
cut_means text old c =
    let past : (m : ℕ) → c.j < m → m ≤ length text → FrontOf IsText (take m text) → ⊥ =
    λ m h l f. let w = longer text c.j m f.1 h l in
    not_past (take c.j text) w.0 old (get_or text c.j 0) c.n f.0 c.front c.wrong (subst (λ t. IsText f.0 t) w.1 f.2)
    in
    let whole : (g : Game) → IsText g text → ⊥ =
    λ g t. past (length text) c.inside (omega arith) (g, [], subst (λ x. IsText g x) (sym (append-nil (take (length text) text) ∙ take_all (length text) text (omega arith))) t)
    in (
      (whole, omega (arith, c.inside), fed_front (take c.j text) old c.n c.front, past),
      sym (ap (λ x. expected_by x (ltb c.j (length text))) c.front ∙ ap (expected_by (Some c.n)) (lt-ltb c.j (length text) c.inside)),
    )

-- the text ends too early
early_means :
    (text old : List ℕ) (n : Machine) (o : Option State) (p : Progress) (exit : List ℕ) → feed (start old) text ≡ Some n → settled n.lexer n.at n.memory ≡ o
    → ((s : State) → o ≡ Some s → is_end s.at.stage ≡ true → ⊥) → expecting p.stage p ≡ expected_at_end n o → Means text old (fault_at (length text) p) exit
unfolding expected_at
early_means text old n o p exit e so never x =
    let all : take (length text) text ≡ text = take_all (length text) text (omega arith) in (
      (
        λ g t.
            let f = complete g text old t in
            let same : n ≡ f.to = same_some n f.to (sym e ∙ f.fed) in
            never (the_end g old) (sym so ∙ ap (λ (k : Machine). settled k.lexer k.at k.memory) same ∙ f.settles) refl,
        omega arith,
        subst (λ u. FrontOf IsText u) (sym all) (fed_front text old n e),
        λ m h l f. omega arith,
      ),
      x ∙ ap (λ y. expected_at_end n y) (sym so)
          ∙ sym (ap (λ u. expected_by (feed (start old) u) (ltb (length text) (length text))) all ∙ ap (λ y. expected_by y (ltb (length text) (length text))) e
          ∙ ap (expected_by (Some n)) (le-ltb (length text) (length text) (omega arith))),
    )

abbrev OutcomeMeans : List ℕ → List ℕ → Outcome → Type 0
OutcomeMeans text old r = Means text old r.answer r.memory

end_means : (text old : List ℕ) (n : Machine) (o : Option State) → feed (start old) text ≡ Some n → settled n.lexer n.at n.memory ≡ o → OutcomeMeans text old (at_end n o (length text))
end_means text old n None e so = early_means text old n None n.at n.memory e so (λ s x z. let q : ◌≡◌ {A = ℕ} 0 1 = cc in omega arith) refl
end_means text old n (Some s) e so = go (is_end s.at.stage) refl
  where
    go : (b : Bool) → is_end s.at.stage ≡ b → OutcomeMeans text old (cond b (record { answer = Ok s.at.len; memory = s.memory }) (failed (length text) s.at s.memory))
    go true z =
        let f : Fed (start old) text s = record { to = n; fed = e; settles = so } in
        let w = sound text old s f z in
        (w.g, w.is, ap (λ (x : State). x.at.len) w.same, ap (λ (x : State). x.memory) w.same)
    go false z = early_means text old n (Some s) s.at s.memory e so (λ t x y. clash (is_end t.at.stage) y (ap (λ (u : State). is_end u.at.stage) (sym (same_some s t x)) ∙ z)) refl

-- what reading answers
pub means : (text old : List ℕ) → Means text old (read text old).answer (read text old).memory
unfolding read
means text old =
    elim (stops text (start old) 0) [
      | inl w ↦
          let z : 0 + length text ≡ length text = omega arith in
          subst (OutcomeMeans text old) (sym (w.is ∙ ap (at_end w.n (settled w.n.lexer w.n.at w.n.memory)) z)) (end_means text old w.n _ w.fed refl)
      | inr c ↦
          let z : 0 + c.j ≡ c.j = omega arith in
          subst (OutcomeMeans text old) (sym (c.is ∙ ap (λ k. failed k c.n.at c.n.memory) z)) (cut_means text old c)
    ]

-- and what an outcome means that is so read
pub said : (text old : List ℕ) (r : Outcome) → r ≡ read text old → (r ≡ read text old) × Means text old r.answer r.memory
said text old r e = (e, subst (OutcomeMeans text old) (sym e) (means text old))

-- bytes with room enough are all in the memory
filled_whole : (bs old : List ℕ) → length bs ≡ length old → filled bs old ≡ bs
unfolding filled
filled_whole bs old h =
    ap (λ x. x ++ drop (length bs) old) (take_all (length old) bs (omega arith)) ∙ ap (λ x. bs ++ x) (drop_all (length bs) old (omega arith)) ∙ append-nil bs

-- a text is that of one game
pub one_game : OneGameAText
one_game g h text tg th =
    let old : List ℕ = game_bytes g in
    let f = complete g text old tg in
    let k = complete h text old th in
    let same : f.to ≡ k.to = same_some f.to k.to (sym f.fed ∙ k.fed) in
    let end : the_end g old ≡ the_end h old =
    same_some (the_end g old) (the_end h old) (sym f.settles ∙ ap (λ (m : Machine). settled m.lexer m.at m.memory) same ∙ k.settles)
    in
    let long : length (game_bytes g) ≡ length (game_bytes h) = ap (λ (s : State). s.at.len) end in
    let bytes : game_bytes g ≡ game_bytes h =
    sym (filled_whole (game_bytes g) old refl) ∙ ap (λ (s : State). s.memory) end ∙ filled_whole (game_bytes h) old (sym long)
    in
    same_some g h (sym (game_reads_back g tg.0) ∙ ap parse_game bytes ∙ game_reads_back h th.0)
