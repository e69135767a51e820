use Rattle.std.proofs.Common.{refl}
use Rattle.wire.specs.Numbers.{number_bytes}
use Rattle.wire.specs.Exprs.{expr_bytes}
use Rattle.wire.specs.Games.{cells_bytes, effects_bytes, rule_bytes, rules_bytes, game_bytes}
use Rattle.laws.specs.Pile.{pile}
use Rattle.promises.proofs.pile_bytes.Goals as goal

pub returns : goal.returns
unfolding pile game_bytes rules_bytes rule_bytes effects_bytes cells_bytes expr_bytes number_bytes
returns c = refl
