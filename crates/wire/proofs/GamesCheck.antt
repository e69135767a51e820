-- Bytes are below 256, and the cells of a game that fits are below 65,536.
use Rattle.std.proofs.Common.{◌≡◌, ℕ, suc, ◌<◌, true, ◌&&◌, ltb, List, [], ◌∷◌, length, get_or, refl}
use Rattle.std.proofs.lemmas.Bool.{and_parts, and_from, lt-ltb}
use Rattle.rules.specs.Rules.{Game}
use Rattle.rules.specs.Bounds.{all_below}
use Rattle.wire.specs.Games.{fits_bytes}

pub below_from : (bs : List ℕ) → ((i : ℕ) → get_or bs i 0 < 256) → all_below 256 bs ≡ true
unfolding all_below
below_from [] h = refl
below_from (b ∷ bs) h = and_from _ _ (lt-ltb b 256 (h 0)) (below_from bs (λ i. h (suc i)))

pub start_fits : (g : Game) → fits_bytes g ≡ true → all_below 65536 g.start ≡ true
unfolding fits_bytes
start_fits g h =
    let p = and_parts (ltb g.players 256 && (ltb (length g.start) 65536 && all_below 65536 g.start)) _ h in
    let q = and_parts (ltb g.players 256) (ltb (length g.start) 65536 && all_below 65536 g.start) p.0 in
    (and_parts (ltb (length g.start) 65536) (all_below 65536 g.start) q.1).1
