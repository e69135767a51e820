-- What could have come, in words. Assumes nothing: these are definitions.
use Rattle.std.specs.Prelude.{ℕ, List, codes}
use Rattle.game_text.specs.declared.progress.Expected.{Expected}
use Rattle.game_text.specs.declared.progress.Expected.TheVariants.{ThePlayers, PlayerCount, TheCells, CellRuleOrOver, RuleOrOver, Number, TheMay, AnExpression, SetRuleOrOver, SetOrOver, TheOver, TheGain, TheEnd}

abbrev pub told : Expected → List ℕ
told ThePlayers = codes "the word 'players'"
told PlayerCount = codes "the number of players, at most 255,"
told TheCells = codes "the word 'cells'"
told CellRuleOrOver = codes "the next cell's number, at most 65535, or 'rule' or 'over'"
told RuleOrOver = codes "'rule' or 'over'"
told Number = codes "a number, at most 65535,"
told TheMay = codes "the word 'may'"
told AnExpression = codes "an expression"
told SetRuleOrOver = codes "'set', 'rule' or 'over'"
told SetOrOver = codes "'set' or 'over'"
told TheOver = codes "the word 'over'"
told TheGain = codes "the word 'gain'"
told TheEnd = codes "the end of the game"
