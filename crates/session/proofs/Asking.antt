-- What a server asks for is little enough.
use Rattle.std.proofs.Common.{◌≡◌, ℕ, ◌+◌, ◌*◌, ◌≤◌, true, length, sym, subst, add-mul, arith}
use Rattle.std.proofs.lemmas.Nat.{mul-le}
use Rattle.rules.specs.declared.Limits.{Limits}
use Rattle.rules.specs.Rules.{Game}
use Rattle.rules.specs.Bounds.{good_game}
use Rattle.wire.specs.Games.{size_of}
use Rattle.rows.proofs.LoadSize.{words_are_enough}
use Rattle.tables.specs.declared.plan.Sizes.{Sizes}
use Rattle.tables.specs.Layout.{sizes_of}
use Rattle.session.specs.Promise.{words_bound, bytes_bound, NeedsLittle}
use Rattle.session.proofs.Starting.{needed_is}

pub sizes_little :
    (l : Limits) (g : Game) → good_game g ≡ true
    → let z : Sizes = sizes_of l (size_of g) in (z.rules + z.state + z.scratch ≤ words_bound l g) × (z.answer ≤ bytes_bound g)
unfolding size_of
sizes_little l g good =
    let n : ℕ = length g.start in (
      omega (
        arith,
        words_are_enough g good,
        mul-le l.tables (n + 9) l.tables (n + 16) (omega arith) (omega arith),
        add-mul l.tables (2 * l.positions) (n + 16),
      ),
      omega arith,
    )

pub needs_little : NeedsLittle
needs_little l bs z g h e =
    let p = needed_is l bs z g h e in
    subst (λ y. (y.rules + y.state + y.scratch ≤ words_bound l g) × (y.answer ≤ bytes_bound g)) (sym p.2) (sizes_little l g p.1)
