-- What the machine does with the pieces of a game: it writes the game's bytes.
use Rattle.std.proofs.Common.{◌≡◌, ℕ, suc, ◌+◌, ◌*◌, ◌/◌, ◌%◌, ◌<◌, Bool, true, false, cond, ◌&&◌, eqb, ltb, List, [], ◌∷◌, ◌++◌, length, set, Some, None, codes, sym, refl, ap, ◌∙◌, arith}
use Rattle.std.proofs.lemmas.List.{append_assoc, append-nil, length-append}
use Rattle.std.proofs.lemmas.Bool.{and_parts, cond-true, cond-false, ltb-true, lt-ltb, ne_eqb}
use Rattle.rules.specs.Rules.{Effect, Rule, Game}
use Rattle.rules.specs.Bounds.{all_below}
use Rattle.wire.specs.Numbers.{number_bytes}
use Rattle.wire.specs.Exprs.{expr_bytes, expr_fits}
use Rattle.wire.specs.Games.{cells_bytes, effects_bytes, rule_bytes, rules_bytes, game_bytes, effects_fit, rule_fits, rules_fit, fits_bytes}
use Rattle.text.specs.Grammar.{Piece, word, number}
use Rattle.game_text.specs.declared.progress.Part.TheVariants.{Guard, Effect as AnEffect, Terminal, Payoff}
use Rattle.game_text.specs.declared.progress.Stage.{Stage}
use Rattle.game_text.specs.declared.progress.Stage.TheVariants.{CellsWord, Values, FirstBound, SecondBound, MayWord, Sets, GainWord, End}
use Rattle.game_text.specs.declared.progress.Word.{Word}
use Rattle.game_text.specs.declared.progress.Word.TheVariants.{Rule as TheRule, Set as TheSet, Over as TheOver}
use Rattle.game_text.specs.declared.progress.Progress.{Progress}
use Rattle.game_text.specs.Text.{expr_pieces, number_pieces, effects_pieces, rules_pieces, game_pieces}
use Rattle.game_text.specs.Filling.{filled}
use Rattle.game_text.specs.Machine.{State, and_then, word_taken, look, agrees, is_front, put_two, beginning}
use Rattle.game_text.proofs.Filled.{filled_start, filled_more, filled_set}
use Rattle.game_text.proofs.Runs.{run, run_none, run_one, in_part, awaiting, filled_two, expr_run}

-- between expressions
abbrev pub between : Stage → ℕ → ℕ → ℕ → List ℕ → ℕ → List ℕ → State
between s c r k d a old =
    record { at = record { stage = s; part = Guard; more = 0; cells = c; rules = r; sets = k; len = length d; sets_at = a }; memory = filled d old }

same_between :
    (s : Stage) (c r k : ℕ) (d : List ℕ) (l a : ℕ) (memory old : List ℕ) → l ≡ length d → memory ≡ filled d old
    → ◌≡◌ {A = State} (record { at = record { stage = s; part = Guard; more = 0; cells = c; rules = r; sets = k; len = l; sets_at = a }; memory = memory }) (between s c r k d a old)
same_between s c r k d l a memory old e f =
    λ i. record { at = record { stage = s; part = Guard; more = 0; cells = c; rules = r; sets = k; len = e i; sets_at = a }; memory = f i }

length_middle : (pre : List ℕ) (x y : ℕ) (post : List ℕ) → length (pre ++ (x ∷ post)) ≡ length (pre ++ (y ∷ post))
length_middle pre x y post = length-append pre (x ∷ post) ∙ sym (length-append pre (y ∷ post))

assoc_three : (a b c d : List ℕ) → ((a ++ b) ++ c) ++ d ≡ a ++ (b ++ (c ++ d))
assoc_three a b c d = simp append_assoc

-- the word of an effect
set_run :
    (c r k : ℕ) (pre post : List ℕ) (old : List ℕ) (ps : List Piece) → k < 255
    → run (between Sets c r k (pre ++ (k ∷ post)) (length pre) old) (word (codes "set") ∷ ps)
    ≡ run (awaiting AnEffect 1 c r (k + 1) (pre ++ ((k + 1) ∷ post)) (length pre) old) ps
unfolding agrees is_front
set_run c r k pre post old ps h =
    let p : Progress = (between Sets c r k (pre ++ (k ∷ post)) (length pre) old).at in
    let others : List Word = cond (ltb r 255) (TheRule ∷ []) [] ++ (TheOver ∷ []) in
    let m : List ℕ = filled (pre ++ (k ∷ post)) old in
    run_one _ _ (word (codes "set")) ps
    (ap (λ ws. and_then (look true (ws ++ others) (codes "set")) (λ w. Some (word_taken w p m))) (cond-true (ltb k 255) (TheSet ∷ []) [] (lt-ltb k 255 h)))
    ∙ ap (λ s. run s ps) (λ i. record {
      at = record { stage = (in_part AnEffect 1 c r (k + 1) pre 0).stage; part = AnEffect; more = 1; cells = c; rules = r; sets = k + 1; len = length_middle pre k (k + 1) post i; sets_at = length pre };
      memory = filled_set pre k post old (k + 1) i;
    })

pub effects_run :
    (es : List Effect) (c r k : ℕ) (pre post : List ℕ) (old : List ℕ) (ps : List Piece) → k + length es < 256 → effects_fit es ≡ true
    → run (between Sets c r k (pre ++ (k ∷ post)) (length pre) old) (effects_pieces es ++ ps)
    ≡ run (between Sets c r (k + length es) (pre ++ ((k + length es) ∷ (post ++ effects_bytes es))) (length pre) old) ps
unfolding effects_pieces effects_bytes effects_fit
effects_run [] c r k pre post old ps h f =
    let z : k ≡ k + 0 = omega arith in
    λ i. run (between Sets c r (z i) (pre ++ (z i ∷ sym (append-nil post) i)) (length pre) old) ps
effects_run (e ∷ es) c r k pre post old ps h f =
    let f₁ = and_parts (expr_fits e.cell) (expr_fits e.value && effects_fit es) f in
    let f₂ = and_parts (expr_fits e.value) (effects_fit es) f₁.1 in
    let u : List ℕ = expr_bytes e.cell in
    let v : List ℕ = expr_bytes e.value in
    let flat : (expr_pieces e.cell ++ (expr_pieces e.value ++ effects_pieces es)) ++ ps ≡ expr_pieces e.cell ++ (expr_pieces e.value ++ (effects_pieces es ++ ps)) = simp append_assoc in
    let d : List ℕ = pre ++ ((k + 1) ∷ post) in
    let back : (d ++ u) ++ v ≡ pre ++ ((k + 1) ∷ ((post ++ u) ++ v)) = simp append_assoc in
    let count : (k + 1) + length es ≡ k + suc (length es) = omega arith in
    ap (λ qs. run (between Sets c r k (pre ++ (k ∷ post)) (length pre) old) (word (codes "set") ∷ qs)) flat
    ∙ set_run c r k pre post old _ (omega arith)
    ∙ expr_run e.cell AnEffect 1 c r (k + 1) d (length pre) old _ f₁.0
    ∙ expr_run e.value AnEffect 0 c r (k + 1) (d ++ u) (length pre) old _ f₂.0
    ∙ ap (λ b. run (between Sets c r (k + 1) b (length pre) old) (effects_pieces es ++ ps)) back
    ∙ effects_run es c r (k + 1) pre ((post ++ u) ++ v) old ps (omega arith) f₂.1
    ∙ (λ i. run (between Sets c r (count i) (pre ++ (count i ∷ assoc_three post u v (effects_bytes es) i)) (length pre) old) ps)

-- a bound of a rule
first_run :
    (c r k : ℕ) (d : List ℕ) (a : ℕ) (old : List ℕ) (n : ℕ) (ps : List Piece) → ltb n 65536 ≡ true
    → run (between FirstBound c r k d a old) (number n ∷ ps) ≡ run (between SecondBound c r k (d ++ number_bytes 2 n) a old) ps
unfolding number_bytes
first_run c r k d a old n ps e =
    run_one _ _ (number n) ps (cond-true (ltb n 65536) _ None e)
    ∙ ap (λ s. run s ps) (same_between SecondBound c r k (d ++ number_bytes 2 n) (length d + 2) a _ old (sym (length-append d (number_bytes 2 n))) (filled_two d old n (ltb-true n 65536 e)))

second_run :
    (c r k : ℕ) (d : List ℕ) (a : ℕ) (old : List ℕ) (n : ℕ) (ps : List Piece) → ltb n 65536 ≡ true
    → run (between SecondBound c r k d a old) (number n ∷ ps) ≡ run (between MayWord c r k (d ++ number_bytes 2 n) a old) ps
unfolding number_bytes
second_run c r k d a old n ps e =
    run_one _ _ (number n) ps (cond-true (ltb n 65536) _ None e)
    ∙ ap (λ s. run s ps) (same_between MayWord c r k (d ++ number_bytes 2 n) (length d + 2) a _ old (sym (length-append d (number_bytes 2 n))) (filled_two d old n (ltb-true n 65536 e)))

may_run :
    (c r k : ℕ) (d : List ℕ) (a : ℕ) (old : List ℕ) (ps : List Piece)
    → run (between MayWord c r k d a old) (word (codes "may") ∷ ps) ≡ run (awaiting Guard 0 c r k d a old) ps
unfolding agrees is_front
may_run c r k d a old ps = run_one (between MayWord c r k d a old) (awaiting Guard 0 c r k d a old) (word (codes "may")) ps refl

one_byte : (n : ℕ) → n < 256 → number_bytes 1 n ≡ n ∷ []
unfolding number_bytes
one_byte n h = let m : n % 256 ≡ n = omega arith in ap (λ b. b ∷ []) m

-- a rule after its word
body_run :
    (u : Rule) (c r k : ℕ) (d : List ℕ) (a : ℕ) (old : List ℕ) (ps : List Piece) → rule_fits u ≡ true
    → (i : ℕ) × (run (between FirstBound c r k d a old) (number u.first_bound ∷ number u.second_bound ∷ word (codes "may") ∷ (expr_pieces u.guard ++ (effects_pieces u.effects ++ ps)))
    ≡ run (between Sets c r (length u.effects) (d ++ rule_bytes u) i old) ps)
unfolding rule_fits rule_bytes
body_run u c r k d a old ps h =
    let f = and_parts (ltb u.first_bound 65536 && ltb u.second_bound 65536) (expr_fits u.guard && (ltb (length u.effects) 256 && effects_fit u.effects)) h in
    let b = and_parts (ltb u.first_bound 65536) (ltb u.second_bound 65536) f.0 in
    let g = and_parts (expr_fits u.guard) (ltb (length u.effects) 256 && effects_fit u.effects) f.1 in
    let e = and_parts (ltb (length u.effects) 256) (effects_fit u.effects) g.1 in
    let n : ℕ = length u.effects in
    let x : List ℕ = number_bytes 2 u.first_bound in
    let y : List ℕ = number_bytes 2 u.second_bound in
    let z : List ℕ = expr_bytes u.guard in
    let w : List ℕ = effects_bytes u.effects in
    let d₃ : List ℕ = ((d ++ x) ++ y) ++ z in
    let few = ltb-true n 256 e.0 in
    let none : 0 + n ≡ n = omega arith in
    let all : d₃ ++ (n ∷ w) ≡ d ++ (x ++ (y ++ (z ++ ((n ∷ []) ++ w)))) = simp append_assoc in (
      length d₃,
      first_run c r k d a old u.first_bound _ b.0 ∙ second_run c r k (d ++ x) a old u.second_bound _ b.1 ∙ may_run c r k ((d ++ x) ++ y) a old _
          ∙ expr_run u.guard Guard 0 c r k ((d ++ x) ++ y) a old _ g.0
          ∙ ap (λ s. run s (effects_pieces u.effects ++ ps)) (same_between Sets c r 0 (d₃ ++ (0 ∷ [])) (length d₃ + 1) (length d₃) _ old (sym (length-append d₃ (0 ∷ []))) (filled_more d₃ old 0))
          ∙ effects_run u.effects c r 0 d₃ [] old ps (omega arith) e.1
          ∙ ap (λ m. run (between Sets c r m (d₃ ++ (m ∷ w)) (length d₃) old) ps) none
          ∙ ap (λ l. run (between Sets c r n l (length d₃) old) ps) (all ∙ ap (λ q. d ++ (x ++ (y ++ (z ++ (q ++ w))))) (sym (one_byte n few))),
    )

-- the words between rules
pub look_over : (s t : Bool) → look true (cond s (TheSet ∷ []) [] ++ (cond t (TheRule ∷ []) [] ++ (TheOver ∷ []))) (codes "over") ≡ Some TheOver
unfolding agrees is_front
look_over true true = refl
look_over true false = refl
look_over false true = refl
look_over false false = refl

look_rule : (s t : Bool) → t ≡ true → look true (cond s (TheSet ∷ []) [] ++ (cond t (TheRule ∷ []) [] ++ (TheOver ∷ []))) (codes "rule") ≡ Some TheRule
unfolding agrees is_front
look_rule true true e = refl
look_rule true false e = let z : ◌≡◌ {A = ℕ} 0 1 = cc in absurd (omega arith)
look_rule false true e = refl
look_rule false false e = let z : ◌≡◌ {A = ℕ} 0 1 = cc in absurd (omega arith)

over_run :
    (c r k : ℕ) (d : List ℕ) (a : ℕ) (old : List ℕ) (ps : List Piece) → 0 < r
    → run (between Sets c r k d a old) (word (codes "over") ∷ ps) ≡ run (awaiting Terminal 0 c r 0 d 0 old) ps
over_run c r k d a old ps h =
    run_one (between Sets c r k d a old) _ (word (codes "over")) ps
    (ap (λ x. and_then x (λ w. Some (word_taken w (between Sets c r k d a old).at (filled d old)))) (look_over (ltb k 255) (ltb r 255))
    ∙ ap (λ x. Some x) (cond-false (eqb r 0) _ _ (ne_eqb r 0 (λ e. omega arith))))

rule_run :
    (c r k : ℕ) (hd post : List ℕ) (a : ℕ) (old : List ℕ) (ps : List Piece) → length hd ≡ 3 + 2 * c → 0 < r → r < 255
    → run (between Sets c r k (hd ++ (r ∷ post)) a old) (word (codes "rule") ∷ ps) ≡ run (between FirstBound c (r + 1) k (hd ++ ((r + 1) ∷ post)) a old) ps
rule_run c r k hd post a old ps n h l =
    let d : List ℕ = hd ++ (r ∷ post) in
    let len : cond (eqb r 0) (length d + 1) (length d) ≡ length (hd ++ ((r + 1) ∷ post)) =
    cond-false (eqb r 0) (length d + 1) (length d) (ne_eqb r 0 (λ e. omega arith)) ∙ length_middle hd r (r + 1) post
    in
    run_one (between Sets c r k d a old) _ (word (codes "rule")) ps
    (ap (λ x. and_then x (λ w. Some (word_taken w (between Sets c r k d a old).at (filled d old)))) (look_rule (ltb k 255) (ltb r 255) (lt-ltb r 255 l)))
    ∙ ap (λ s. run s ps) (same_between FirstBound c (r + 1) k (hd ++ ((r + 1) ∷ post)) _ a _ old len (ap (λ i. set (filled d old) i (r + 1)) (sym n) ∙ filled_set hd r post old (r + 1)))

-- rules after the first
rules_run :
    (us : List Rule) (c r k : ℕ) (hd post : List ℕ) (a : ℕ) (old : List ℕ) (ps : List Piece) → length hd ≡ 3 + 2 * c → 0 < r → r + length us < 256 → rules_fit us ≡ true
    → run (between Sets c r k (hd ++ (r ∷ post)) a old) (rules_pieces us ++ (word (codes "over") ∷ ps))
    ≡ run (awaiting Terminal 0 c (r + length us) 0 (hd ++ ((r + length us) ∷ (post ++ rules_bytes us))) 0 old) ps
unfolding rules_pieces rules_bytes rules_fit
rules_run [] c r k hd post a old ps n h l f =
    let z : r ≡ r + 0 = omega arith in
    over_run c r k (hd ++ (r ∷ post)) a old ps h ∙ (λ i. run (awaiting Terminal 0 c (z i) 0 (hd ++ (z i ∷ sym (append-nil post) i)) 0 old) ps)
rules_run (u ∷ us) c r k hd post a old ps n h l f =
    let e = and_parts (rule_fits u) (rules_fit us) f in
    let qs : List Piece = rules_pieces us ++ (word (codes "over") ∷ ps) in
    let d : List ℕ = hd ++ ((r + 1) ∷ post) in
    let flat : (expr_pieces u.guard ++ (effects_pieces u.effects ++ rules_pieces us)) ++ (word (codes "over") ∷ ps) ≡ expr_pieces u.guard ++ (effects_pieces u.effects ++ qs) =
    simp append_assoc
    in
    let b = body_run u c (r + 1) k d a old qs e.0 in
    let count : (r + 1) + length us ≡ r + suc (length us) = omega arith in
    ap (λ x. run (between Sets c r k (hd ++ (r ∷ post)) a old) (word (codes "rule") ∷ number u.first_bound ∷ number u.second_bound ∷ word (codes "may") ∷ x)) flat
    ∙ rule_run c r k hd post a old _ n h (omega arith)
    ∙ b.1
    ∙ ap (λ x. run (between Sets c (r + 1) (length u.effects) x b.0 old) qs) (append_assoc hd ((r + 1) ∷ post) (rule_bytes u))
    ∙ rules_run us c (r + 1) (length u.effects) hd (post ++ rule_bytes u) b.0 old ps n (omega arith) (omega arith) e.1
    ∙ (λ i. run (awaiting Terminal 0 c (count i) 0 (hd ++ (count i ∷ append_assoc post (rule_bytes u) (rules_bytes us) i)) 0 old) ps)

-- all rules, after the cells
first_rules_run :
    (us : List Rule) (c : ℕ) (hd : List ℕ) (old : List ℕ) (ps : List Piece) → length hd ≡ 3 + 2 * c → length us < 256 → rules_fit us ≡ true
    → run (between Values c 0 0 hd 0 old) (rules_pieces us ++ (word (codes "over") ∷ ps)) ≡ run (awaiting Terminal 0 c (length us) 0 (hd ++ (length us ∷ rules_bytes us)) 0 old) ps
unfolding rules_pieces rules_bytes rules_fit agrees is_front
first_rules_run [] c hd old ps n l f =
    run_one (between Values c 0 0 hd 0 old) _ (word (codes "over")) ps refl
    ∙ ap (λ s. run s ps) (λ i. record {
      at = record { stage = (in_part Terminal 0 c 0 0 hd 0).stage; part = Terminal; more = 0; cells = c; rules = 0; sets = 0; len = sym (length-append hd (0 ∷ [])) i; sets_at = 0 };
      memory = filled_more hd old 0 i;
    })
first_rules_run (u ∷ us) c hd old ps n l f =
    let e = and_parts (rule_fits u) (rules_fit us) f in
    let qs : List Piece = rules_pieces us ++ (word (codes "over") ∷ ps) in
    let d : List ℕ = hd ++ (1 ∷ []) in
    let flat : (expr_pieces u.guard ++ (effects_pieces u.effects ++ rules_pieces us)) ++ (word (codes "over") ∷ ps) ≡ expr_pieces u.guard ++ (effects_pieces u.effects ++ qs) =
    simp append_assoc
    in
    let b = body_run u c 1 0 d 0 old qs e.0 in
    let count : 1 + length us ≡ suc (length us) = omega arith in
    ap (λ x. run (between Values c 0 0 hd 0 old) (word (codes "rule") ∷ number u.first_bound ∷ number u.second_bound ∷ word (codes "may") ∷ x)) flat
    ∙ run_one (between Values c 0 0 hd 0 old) _ (word (codes "rule")) _ refl
    ∙ ap (λ s. run s (number u.first_bound ∷ number u.second_bound ∷ word (codes "may") ∷ (expr_pieces u.guard ++ (effects_pieces u.effects ++ qs))))
    (same_between FirstBound c 1 0 d (length hd + 1) 0 _ old (sym (length-append hd (1 ∷ []))) (ap (λ i. set (filled hd old) i 1) (sym n) ∙ filled_more hd old 1))
    ∙ b.1
    ∙ ap (λ x. run (between Sets c 1 (length u.effects) x b.0 old) qs) (append_assoc hd (1 ∷ []) (rule_bytes u))
    ∙ rules_run us c 1 (length u.effects) hd (rule_bytes u) b.0 old ps n (omega arith) (omega arith) e.1
    ∙ (λ i. run (awaiting Terminal 0 c (count i) 0 (hd ++ (count i ∷ (rule_bytes u ++ rules_bytes us))) 0 old) ps)

-- the count of cells is brought up to date
filled_count :
    (p c m : ℕ) (rest old : List ℕ) → m < 65536 → put_two (filled (p ∷ (number_bytes 2 c ++ rest)) old) 1 m ≡ filled (p ∷ (number_bytes 2 m ++ rest)) old
unfolding number_bytes
filled_count p c m rest old h =
    let high : (m / 256) % 256 ≡ m / 256 = omega arith in
    ap (λ l. set l 2 (m / 256)) (filled_set (p ∷ []) (c % 256) ((c / 256) % 256 ∷ rest) old (m % 256))
    ∙ filled_set (p ∷ m % 256 ∷ []) ((c / 256) % 256) rest old (m / 256) ∙ ap (λ b. filled (p ∷ m % 256 ∷ b ∷ rest) old) (sym high)

cell_run :
    (p c n : ℕ) (cs old : List ℕ) (ps : List Piece) → c < 65535 → ltb n 65536 ≡ true
    → run (between Values c 0 0 (p ∷ (number_bytes 2 c ++ cs)) 0 old) (number n ∷ ps)
    ≡ run (between Values (c + 1) 0 0 (p ∷ (number_bytes 2 (c + 1) ++ (cs ++ number_bytes 2 n))) 0 old) ps
unfolding number_bytes
cell_run p c n cs old ps h e =
    let d : List ℕ = p ∷ (number_bytes 2 c ++ cs) in
    let more : List ℕ = cs ++ number_bytes 2 n in
    let limit : ◌≡◌ {A = ℕ} (cond (ltb c 65535) 65536 0) 65536 = cond-true (ltb c 65535) 65536 0 (lt-ltb c 65535 h) in
    let small : ltb n (cond (ltb c 65535) 65536 0) ≡ true = ap (ltb n) limit ∙ e in
    let len : length d + 2 ≡ length (p ∷ (number_bytes 2 (c + 1) ++ more)) = omega (arith, length-append cs (number_bytes 2 n)) in
    run_one _ _ (number n) ps (cond-true (ltb n (cond (ltb c 65535) 65536 0)) _ None small)
    ∙ ap (λ s. run s ps) (same_between Values (c + 1) 0 0 (p ∷ (number_bytes 2 (c + 1) ++ more)) (length d + 2) 0 _ old len
    (ap (λ l. put_two l 1 (c + 1)) (filled_two d old n (ltb-true n 65536 e)) ∙ filled_count p c (c + 1) more old (omega arith)))

cells_run :
    (ns : List ℕ) (p c : ℕ) (cs old : List ℕ) (ps : List Piece) → c + length ns < 65536 → all_below 65536 ns ≡ true
    → run (between Values c 0 0 (p ∷ (number_bytes 2 c ++ cs)) 0 old) (number_pieces ns ++ ps)
    ≡ run (between Values (c + length ns) 0 0 (p ∷ (number_bytes 2 (c + length ns) ++ (cs ++ cells_bytes ns))) 0 old) ps
unfolding number_pieces cells_bytes all_below
cells_run [] p c cs old ps h f =
    let z : c ≡ c + 0 = omega arith in λ i. run (between Values (z i) 0 0 (p ∷ (number_bytes 2 (z i) ++ sym (append-nil cs) i)) 0 old) ps
cells_run (n ∷ ns) p c cs old ps h f =
    let e = and_parts (ltb n 65536) (all_below 65536 ns) f in
    let count : (c + 1) + length ns ≡ c + suc (length ns) = omega arith in
    cell_run p c n cs old (number_pieces ns ++ ps) (omega arith) e.0
    ∙ cells_run ns p (c + 1) (cs ++ number_bytes 2 n) old ps (omega arith) e.1
    ∙ (λ i. run (between Values (count i) 0 0 (p ∷ (number_bytes 2 (count i) ++ append_assoc cs (number_bytes 2 n) (cells_bytes ns) i)) 0 old) ps)

cells_length : (ns : List ℕ) → length (cells_bytes ns) ≡ 2 * length ns
unfolding cells_bytes number_bytes
cells_length [] = refl
cells_length (n ∷ ns) = let h : length (cells_bytes ns) ≡ 2 * length ns = cells_length ns in omega arith

head_length : (p c : ℕ) (x : List ℕ) → length x ≡ 2 * c → length (p ∷ (number_bytes 2 c ++ x)) ≡ 3 + 2 * c
unfolding number_bytes
head_length p c x h = omega arith

-- the first three pieces
head_run :
    (p : ℕ) (old : List ℕ) (ps : List Piece) → ltb p 256 ≡ true
    → run (record { at = beginning; memory = old }) (word (codes "players") ∷ number p ∷ word (codes "cells") ∷ ps) ≡ run (between Values 0 0 0 (p ∷ (number_bytes 2 0 ++ [])) 0 old) ps
unfolding agrees is_front number_bytes
head_run p old ps e =
    run_one _ _ (word (codes "players")) _ refl
    ∙ run_one _ (between CellsWord 0 0 0 (p ∷ []) 0 old) (number p) _
    (cond-true (ltb p 256) _ None e ∙ ap (λ x. Some x) (same_between CellsWord 0 0 0 (p ∷ []) 1 0 _ old refl (ap (λ l. set l 0 p) (sym (filled_start old)) ∙ filled_more [] old p)))
    ∙ run_one _ _ (word (codes "cells")) ps refl
    ∙ ap (λ s. run s ps) (same_between Values 0 0 0 (p ∷ 0 ∷ 0 ∷ []) 3 0 _ old refl (filled_two (p ∷ []) old 0 (omega arith)))

gain_run :
    (c r : ℕ) (d : List ℕ) (old : List ℕ) (ps : List Piece) → run (between GainWord c r 0 d 0 old) (word (codes "gain") ∷ ps) ≡ run (awaiting Payoff 0 c r 0 d 0 old) ps
unfolding agrees is_front
gain_run c r d old ps = run_one (between GainWord c r 0 d 0 old) (awaiting Payoff 0 c r 0 d 0 old) (word (codes "gain")) ps refl

-- a game's pieces write its bytes
pub game_run :
    (g : Game) (old : List ℕ) → fits_bytes g ≡ true
    → run (record { at = beginning; memory = old }) (game_pieces g) ≡ Some (between End (length g.start) (length g.rules) 0 (game_bytes g) 0 old)
unfolding game_pieces fits_bytes game_bytes
game_run g old h =
    let f₀ = and_parts (ltb g.players 256 && (ltb (length g.start) 65536 && all_below 65536 g.start)) _ h in
    let f₁ = and_parts (ltb g.players 256) (ltb (length g.start) 65536 && all_below 65536 g.start) f₀.0 in
    let f₂ = and_parts (ltb (length g.start) 65536) (all_below 65536 g.start) f₁.1 in
    let f₃ = and_parts (ltb (length g.rules) 256 && rules_fit g.rules) (expr_fits g.terminal && expr_fits g.payoff) f₀.1 in
    let f₄ = and_parts (ltb (length g.rules) 256) (rules_fit g.rules) f₃.0 in
    let f₅ = and_parts (expr_fits g.terminal) (expr_fits g.payoff) f₃.1 in
    let c : ℕ = length g.start in
    let r : ℕ = length g.rules in
    let p : ℕ = g.players in
    let few_cells = ltb-true c 65536 f₂.0 in
    let few_rules = ltb-true r 256 f₄.0 in
    let few_players = ltb-true p 256 f₁.0 in
    let x : List ℕ = cells_bytes g.start in
    let hd : List ℕ = p ∷ (number_bytes 2 c ++ x) in
    let y : List ℕ = rules_bytes g.rules in
    let t : List ℕ = expr_bytes g.terminal in
    let v : List ℕ = expr_bytes g.payoff in
    let long : length hd ≡ 3 + 2 * c = head_length p c x (cells_length g.start) in
    let none : 0 + c ≡ c = omega arith in
    let last : expr_pieces g.payoff ≡ expr_pieces g.payoff ++ [] = sym (append-nil (expr_pieces g.payoff)) in
    let d : List ℕ = hd ++ (r ∷ y) in
    let bytes : (d ++ t) ++ v ≡ (p ∷ []) ++ (number_bytes 2 c ++ (x ++ ((r ∷ []) ++ (y ++ (t ++ v))))) = simp append_assoc in
    let ps₂ : List Piece = word (codes "gain") ∷ expr_pieces g.payoff in
    let ps₁ : List Piece = expr_pieces g.terminal ++ ps₂ in
    let ps₀ : List Piece = rules_pieces g.rules ++ (word (codes "over") ∷ ps₁) in
    head_run p old (number_pieces g.start ++ ps₀) f₁.0
    ∙ cells_run g.start p 0 [] old ps₀ (omega arith) f₂.1
    ∙ ap (λ n. run (between Values n 0 0 (p ∷ (number_bytes 2 n ++ x)) 0 old) ps₀) none
    ∙ first_rules_run g.rules c hd old ps₁ long few_rules f₄.1
    ∙ expr_run g.terminal Terminal 0 c r 0 d 0 old ps₂ f₅.0
    ∙ gain_run c r (d ++ t) old (expr_pieces g.payoff)
    ∙ ap (λ ps. run (awaiting Payoff 0 c r 0 (d ++ t) 0 old) ps) last
    ∙ expr_run g.payoff Payoff 0 c r 0 (d ++ t) 0 old [] f₅.1
    ∙ run_none (between End c r 0 ((d ++ t) ++ v) 0 old)
    ∙ ap (λ l. Some (between End c r 0 l 0 old)) (bytes ∙ (λ i. sym (one_byte p few_players) i ++ (number_bytes 2 c ++ (x ++ (sym (one_byte r few_rules) i ++ (y ++ (t ++ v)))))))
