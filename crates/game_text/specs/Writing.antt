-- What a step of writing leaves.
use Rattle.std.specs.Prelude.{◌≡◌}
use Rattle.game_text.specs.Machine.{State, state_of}
use Rattle.game_text.specs.declared.taking.Writer.{Writer}

-- a state of the machine, in the same memory
abbrev pub Becomes : Writer → Writer → State → Type 0
Becomes old new s = (state_of new.at new.out.now ≡ s) × (new.out.ghost_name ≡ old.out.ghost_name)
