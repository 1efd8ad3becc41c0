use Rattle.std.proofs.Common.{◌≡◌, drop}
use Rattle.std.specs.List.{list_all}
use Rattle.asm_listing.specs.Comments.{is_capital}
use Rattle.asm_listing.proofs.comments.all_capitals.Given as goal

-- what is left decides
abbrev pub invariant-loop-byte : goal.invariant-loop-byte
invariant-loop-byte l = list_all is_capital (drop l.byte-index l.text) ≡ list_all is_capital l.text
