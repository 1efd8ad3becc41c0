-- The size of the screen that is told of.
use Rattle.std.proofs.Common.{◌≡◌, ℕ, ◌/◌, ◌%◌, ◌≤◌, List, length, ap₂, arith}
use Rattle.chip8_lang.specs.declared.view.Edition.{Edition}
use Rattle.chip8_lang.specs.declared.view.Edition.TheVariants.{Usual, Tall}
use Rattle.chip8_lang.specs.Editions.{rows_of}
use Rattle.chip8_lang.specs.Places.{pixels}
use Rattle.chip8_lang.specs.Screen.{Pixels}
use Rattle.vip_relation.specs.State.{screen_size}

pub whole : (e : Edition) (n : ℕ) → n ≡ screen_size e → n % 8 ≡ 0
whole Usual n is = omega (arith, is)
whole Tall n is = omega (arith, is)

pub few : (e : Edition) (n : ℕ) → n ≡ screen_size e → n ≤ 512
few Usual n is = omega (arith, is)
few Tall n is = omega (arith, is)

pub rows_by : (e : Edition) (n : ℕ) → n ≡ screen_size e → n / 8 ≡ rows_of e
rows_by Usual n is = omega (arith, is)
rows_by Tall n is = omega (arith, is)

-- what is shown of the bytes that are lent is what is shown of the edition's rows
pub screen-told : {T : Type 0} (shows : Pixels → ℕ → T) (e : Edition) (rows shown : List ℕ) → rows ≡ shown → length rows ≡ screen_size e
    → shows (pixels (length rows / 8) rows) (length rows / 8) ≡ shows (pixels (rows_of e) shown) (rows_of e)
screen-told shows e rows shown same size = ap₂ (λ n r. shows (pixels n r) n) (rows_by e (length rows) size) same
