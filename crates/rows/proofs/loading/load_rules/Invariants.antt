use Rattle.std.proofs.Common.{ℕ, ◌+◌, ◌-◌, ◌*◌, List, Option}
use Rattle.rows.specs.declared.loading.End.{End}
use Rattle.rows.specs.Load.{PlacesRules}
use Rattle.rows.proofs.loading.load_rules.Given as goal

-- if those that are left are placed, all are
abbrev pub invariant-loop-i : goal.invariant-loop-i
invariant-loop-i l =
    (zs : List ℕ) (r : Option End)
    → PlacesRules l.end.rest.now (l.count - l.i) l.rules zs (l.row + 5 * l.i) l.end.next r → PlacesRules l.bytes l.count l.initial.rules zs l.row l.at r
