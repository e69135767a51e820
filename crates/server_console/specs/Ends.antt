-- When a program must end with an error. Assumes nothing: these are definitions.
use Rattle.std.specs.Prelude.{Bool, true, false, not, Ok, Err, Result}
use Rattle.rules.specs.Bounds.{good_limits}
use Rattle.commands.specs.declared.options.Fault.{Fault}
use Rattle.server_commands.specs.declared.options.Request.{Request}
use Rattle.server_commands.specs.declared.options.Request.TheVariants.{Help, Run, Print, Bytes}

-- the words of a command line are faulty, or ask for limits that no server has
abbrev pub refused_words : Result Request Fault → Bool
refused_words (Err f) = true
refused_words (Ok Help) = false
refused_words (Ok (Run l large g c)) = not (good_limits l)
refused_words (Ok (Print g)) = false
refused_words (Ok (Bytes g)) = false
