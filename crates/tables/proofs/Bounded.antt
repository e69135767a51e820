-- What good limits, sizes and plans are bounded by.
use Rattle.std.proofs.Common.{◌≡◌, ◌≤◌, true, ◌&&◌, leb}
use Rattle.std.proofs.lemmas.Bool.{and_parts, leb-true}
use Rattle.rules.specs.declared.Limits.{Limits}
use Rattle.rules.specs.Bounds.{good_limits}
use Rattle.wire.specs.declared.games.GameSize.{GameSize}
use Rattle.tables.specs.Layout.{good_size}

pub record Few (l : Limits) : Type 0 where
  pub tables : l.tables ≤ 1024
  pub moves : l.moves ≤ 1000000
  pub positions : l.positions ≤ 8192

pub few : (l : Limits) → good_limits l ≡ true → Few l
unfolding good_limits
few l h =
    let a = and_parts (leb l.tables 1024) _ h in
    let b = and_parts (leb l.moves 1000000) _ a.1 in
    record { tables = leb-true _ 1024 a.0; moves = leb-true _ 1000000 b.0; positions = leb-true _ 8192 b.1 }

pub record Small (z : GameSize) : Type 0 where
  pub players : z.players ≤ 4
  pub cells : z.cells ≤ 256
  pub rules : z.rules ≤ 64
  pub effects : z.effects ≤ 16384
  pub moves : z.moves ≤ 4096
  pub parts : z.parts ≤ 16384

pub small : (z : GameSize) → good_size z ≡ true → Small z
unfolding good_size
small z h =
    let a = and_parts (leb z.players 4 && (leb z.cells 256 && leb z.rules 64)) _ h in
    let b = and_parts (leb z.players 4) _ a.0 in
    let c = and_parts (leb z.cells 256) _ b.1 in
    let d = and_parts (leb z.effects 16384) _ a.1 in
    let e = and_parts (leb z.moves 4096) _ d.1 in
    record {
      players = leb-true _ 4 b.0;
      cells = leb-true _ 256 c.0;
      rules = leb-true _ 64 c.1;
      effects = leb-true _ 16384 d.0;
      moves = leb-true _ 4096 e.0;
      parts = leb-true _ 16384 e.1;
    }
