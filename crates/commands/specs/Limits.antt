-- Which limit is larger than a server may have. Assumes nothing: these are definitions.
use Rattle.std.specs.Prelude.{cond, Some, None, Option, nat_lt}
use Rattle.rules.specs.declared.Limits.{Limits}
use Rattle.rules.specs.declared.Limit.TheVariants.{Tables, Moves, Positions}
use Rattle.commands.specs.declared.limits.TooMany.{TooMany}

-- the first of tables, moves and positions of which more are asked for than there may be
abbrev pub too_many : Limits → Option TooMany
too_many l =
    cond (nat_lt 1024 l.tables) (Some (record { limit = Tables; asked = l.tables }))
    (cond (nat_lt 1000000 l.moves) (Some (record { limit = Moves; asked = l.moves }))
    (cond (nat_lt 8192 l.positions) (Some (record { limit = Positions; asked = l.positions })) None))
