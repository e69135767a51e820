use Rattle.std.proofs.Common.{◌≡◌, drop}
use Rattle.game_text.specs.Machine.{reading, read}
use Rattle.game_text.specs.Room.{Sane, machine_of}
use Rattle.game_text.proofs.read_game.Given as goal

abbrev pub invariant-loop-i : goal.invariant-loop-i
invariant-loop-i l =
    Sane l.i l.m.at l.m.token
    × (reading (machine_of l.text l.i l.m l.out) (drop l.i l.text) l.i ≡ read l.text l.initial.out)
