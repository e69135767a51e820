use Rattle.std.proofs.Common.{ℕ, ◌+◌, ◌-◌, List, Option}
use Rattle.rows.specs.declared.loading.End.{End}
use Rattle.rows.specs.Load.{PlacesExprs}
use Rattle.rows.proofs.loading.load_exprs.Given as goal

-- if those that are left are placed, all are
abbrev pub invariant-loop-i : goal.invariant-loop-i
invariant-loop-i l =
    (zs : List ℕ) (r : Option End)
    → PlacesExprs l.end.rest.now (l.count - l.i) l.rules zs (l.table + l.i) l.end.next r → PlacesExprs l.bytes l.count l.initial.rules zs l.table l.at r
