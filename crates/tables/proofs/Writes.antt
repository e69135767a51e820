-- A move in memory, as the code writes it.
use Rattle.std.proofs.Common.{◌≡◌, ℕ, ◌+◌, Bool, List, [], ◌∷◌, ◌++◌, length, get_or, take, drop, set, refl, ap, ◌∙◌, arith, length-set, length-take}
use borrow.Rule.Slice.PartMut.{put_mid}
use Rattle.std.proofs.lemmas.List.{take_at}
use Rattle.rules.specs.declared.Move.{Move}
use Rattle.rules.specs.Rules.{Position, Effect, Game, eval, turn, apply_effects, apply}
use Rattle.rules.specs.Play.{is_over}
use Rattle.tables.specs.declared.plan.Plan.{Plan}
use Rattle.tables.specs.Layout.{entry_place}
use Rattle.tables.specs.Changes.{flag, one_more, advanced, with_entry}
use Rattle.tables.specs.Inner.{played_from}

-- a move leaves as many cells as there were
effects_keep : (es : List Effect) (p : Position) (x y m : ℕ) → length (apply_effects es p x y m) ≡ length p
unfolding apply_effects
effects_keep [] p x y m = refl
effects_keep (e ∷ es) p x y m =
    effects_keep es (set p (eval e.cell p x y m) (eval e.value p x y m)) x y m
    ∙ length-set p (eval e.cell p x y m) (eval e.value p x y m)

pub apply_keeps : (g : Game) (p : Position) (v : Move) → length (apply g p v) ≡ length p
unfolding apply
apply_keeps g p v = effects_keep _ p v.first v.second (turn g p)

-- the record
pub record_advanced :
    (g : Game) (n k count f last : ℕ) (over : Bool) (row q : List ℕ) (v : Move) → length row ≡ n + 9 → k ≡ n
    → q ≡ apply g (take k row) v → over ≡ is_over g (take k (q ++ drop k row)) → f ≡ flag over → count ≡ one_more (get_or row (n + 6) 0)
    → set (set (set (q ++ drop k row) (n + 5) f) (n + 6) count) (n + 8) last ≡ advanced g n row v last
unfolding advanced
record_advanced g n k count f last over row q v l ek eq eo ef ec =
    let lq : length q ≡ k = ap (λ x. length x) eq ∙ (apply_keeps g (take k row) v ∙ simp length-take (omega arith)) in
    let o : over ≡ is_over g q = eo ∙ ap (λ x. is_over g x) (take_at q (drop k row) k lq) in
    rw (ec, ef, o, eq, ek) refl

-- the whole state
pub move_added :
    (g : Game) (w row x y : List ℕ) (p : Plan) (a k e link : ℕ) (v : Move) → k ≡ p.cells + 9 → e ≡ entry_place p.cells p.tables p.played
    → link ≡ get_or w (a + p.cells + 8) 0 → row ≡ advanced g p.cells (take k (drop a w)) v (e + 3)
    → x ≡ set (put_mid a k w row) link p.played → y ≡ with_entry x e v → set y 10 (p.played + 1) ≡ played_from g w p a v
unfolding played_from
move_added g w row x y p a k e link v ek ee el er ex ey = rw (ey, ex, er, el, ek, ee) refl
