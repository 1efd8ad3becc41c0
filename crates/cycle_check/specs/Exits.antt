-- The exits of a certificate: where a routine is left, as its lines say.
use Rattle.std.specs.Prelude.{ℕ, ◌+◌, ◌%◌, ◌==◌, ◌&&◌, if◌then◌else◌, nat_le, nat_lt, is_none, is_some, Bool, true, false, List, [], ◌∷◌, ◌++◌, codes, flat_map, Option, Some, None, option_map, option_and_then, unwrap_or, Result, Ok, Err}
use Rattle.vip_byte.specs.HexText.{hex4}
use Rattle.vip_byte.specs.Reading.{read}
use Rattle.vip_isa.specs.Texts.{instruction_text}
use Rattle.cycle_check.specs.declared.fault.CertFault.{CertFault}
use Rattle.cycle_check.specs.declared.fault.TimingObstacle.{TimingObstacle}
use Rattle.cycle_check.specs.declared.grammar.Bound.{Bound}
use Rattle.cycle_check.specs.declared.grammar.Line.{Line}
use Rattle.cycle_check.specs.declared.table.Way.{Way}
use Rattle.cycle_check.specs.declared.table.Ways.{Ways}
use Rattle.cycle_check.specs.declared.exits.Exit.{Exit}
use Rattle.cycle_check.specs.Certificate.{certificate_format, certificate_of}
use Rattle.cycle_check.specs.FaultNames.{timing_cause_name}
use Rattle.cycle_check.specs.Closed.{bytes_at, instruction_at, lets_through, line_at, line_behind, ways_at}

-- The exit on a way: the fact of its line lets it through, and no line is at its end. Behind SEP of another register R(P) stands at the next address: where
-- that has a line, the routine may go on there.
unfoldable pub exit_on : List ℕ → List Line → Line → Way → Option Exit
exit_on rom lines line way =
    if lets_through line.fact way.when && is_none (line_behind lines way)
    then Some (record {
      address = line.address;
      bytes = bytes_at rom line.address;
      to = option_map (λ to. to % 65536) way.to;
      may_return = is_none way.to && is_some (line_at lines (line.address + 1));
    })
    else None

-- one or two exits, by their next address, each once
abbrev pub next_of : Exit → ℕ
next_of exit = unwrap_or exit.to 0

abbrev pub in_order : Option Exit → Option Exit → List Exit
in_order None None = []
in_order None (Some other) = other ∷ []
in_order (Some one) None = one ∷ []
in_order (Some one) (Some other) =
    if next_of one == next_of other then one ∷ []
    else if nat_lt (next_of one) (next_of other) then one ∷ other ∷ []
    else other ∷ one ∷ []

-- those of a line
abbrev pub exits_with : List ℕ → List Line → Line → Ways → List Exit
exits_with rom lines line ways =
    in_order (exit_on rom lines line ways.first) (option_and_then (λ way. exit_on rom lines line way) ways.second)

unfoldable pub exits_at : List ℕ → Bound → List Line → Line → List Exit
exits_at rom bound lines line = exits_with rom lines line (ways_at bound line (instruction_at rom line.address))

-- those of lines whose addresses rise
abbrev pub exits : List ℕ → Bound → List Line → List Exit
exits rom bound lines = flat_map (λ line. exits_at rom bound lines line) lines

-- those of a certificate
abbrev pub exits_by : List ℕ → List Line → Option Bound → List Exit
exits_by rom lines None = []
exits_by rom lines (Some bound) = exits rom bound lines

abbrev pub exits_of : List ℕ → Result (List (List (List ℕ))) CertFault → List Exit
exits_of rom (Err fault) = []
exits_of rom (Ok statements) = exits_by rom (certificate_of statements).lines (certificate_of statements).bound

unfoldable pub exits_in : List ℕ → List ℕ → List Exit
exits_in rom text = exits_of rom (read certificate_format text)

-- ---- their texts

-- where an exit leads: to an address, or by an instruction with which another register is the program counter, and whether the routine goes on behind it
abbrev pub return_text : Bool → List ℕ
return_text true = codes ", and may come back"
return_text false = []

abbrev pub end_text : Exit → Option ℕ → List ℕ
end_text exit None = codes " by " ++ (instruction_text exit.address exit.bytes ++ return_text exit.may_return)
end_text exit (Some to) = codes " to " ++ hex4 to

unfoldable pub exit_line : Exit → List ℕ
exit_line exit = (codes "leaves at " ++ hex4 exit.address) ++ (end_text exit exit.to ++ 10 ∷ [])

abbrev pub exits_text : List Exit → List ℕ
exits_text exits = flat_map exit_line exits

-- an instruction of the ROM as the disassembly writes it, and nothing outside the ROM
abbrev pub instruction_part : ℕ → List ℕ → List ℕ
instruction_part address bytes = if nat_le 0x8000 address && nat_lt address 0x8800 then codes " " ++ instruction_text address bytes else []

-- why no certificate was found, the instruction and its address
unfoldable pub obstacle_line : TimingObstacle → List ℕ
obstacle_line o = (timing_cause_name o.cause ++ instruction_part o.address o.bytes) ++ (codes " at " ++ (hex4 o.address ++ 10 ∷ []))

-- the exits as remarks
abbrev pub remarks_text : List Exit → List ℕ
remarks_text exits = flat_map (λ exit. codes "# " ++ exit_line exit) exits
