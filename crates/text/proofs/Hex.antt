-- Hexadecimal digits, and what a byte is after what was read so far.
use Rattle.std.proofs.Common.{◌≡◌, ℕ, true, Some, None, sym, ◌∙◌, arith}
use Rattle.std.proofs.lemmas.Bool.Decides.{nat_tests}
use Rattle.text.specs.Grammar.{blank}
use Rattle.text.specs.Raw.{hex_value}

-- white space is no digit
pub blank_not_hex : (b : ℕ) → blank b ≡ true → hex_value b ≡ None
unfolding hex_value
blank_not_hex b e = grind (arith, nat_tests)

pub not_both : (b h : ℕ) → blank b ≡ true → hex_value b ≡ Some h → ⊥
not_both b h e d = no_some (sym (blank_not_hex b e) ∙ d)
  where
    no_some : None ≡ Some h → ⊥
    no_some q = let z : ◌≡◌ {A = ℕ} 0 1 = cc in omega arith
