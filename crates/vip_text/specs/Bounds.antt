-- The printed table of cycle bounds: one line each, of a name and the number of machine cycles in decimal, or `key` where the wait is for
-- the player.
use Rattle.std.specs.Prelude.{ℕ, List, ◌++◌, Option, Some, None, codes, decimal}
use Rattle.chip8_lang.specs.declared.instr.Instr.TheVariants.{Clear, Draw, WaitKey, Decimal, Store, Fetch, Return}
use Rattle.chip8_lang.specs.Bounds.{boot_bound, stop_bound, bound_of_instr}

abbrev pub bound_text : Option ℕ → List ℕ
bound_text None = codes "key"
bound_text (Some cycles) = decimal cycles

abbrev pub bound_line : List ℕ → Option ℕ → List ℕ
bound_line name bound = name ++ codes " " ++ bound_text bound ++ codes "\n"

-- No operand matters to a bound; 00EE stands for all the others.
unfoldable pub bounds_table : List ℕ
bounds_table =
    bound_line (codes "boot") (Some boot_bound)
    ++ bound_line (codes "00E0") (bound_of_instr Clear)
    ++ bound_line (codes "DXYN") (bound_of_instr (Draw 0 0 0))
    ++ bound_line (codes "FX0A") (bound_of_instr (WaitKey 0))
    ++ bound_line (codes "FX33") (bound_of_instr (Decimal 0))
    ++ bound_line (codes "FX55") (bound_of_instr (Store 0))
    ++ bound_line (codes "FX65") (bound_of_instr (Fetch 0))
    ++ bound_line (codes "other") (bound_of_instr Return)
    ++ bound_line (codes "stop") (Some stop_bound)
