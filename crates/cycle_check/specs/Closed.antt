-- Closed lines: what a line of a certificate says of the cycles that are left follows from what the lines behind its instruction say.
use Rattle.std.specs.Prelude.{ℕ, zero, suc, ◌+◌, ◌-◌, ◌*◌, ◌==◌, ◌&&◌, ◌||◌, not, if◌then◌else◌, Bool, true, false, nat_le, is_none, List, [], ◌∷◌, slice_index, Option, Some, None, Result, Ok, Err}
use Rattle.std.specs.List.{find}
use Rattle.std.specs.Option.{option_map_or, option_and_then}
use Rattle.std.specs.Str.Lines.{lines}
use Rattle.machine.specs.declared.Kind.{Kind}
use Rattle.machine.specs.declared.Kind.TheVariants.{Glo, Plo, Ldi}
use Rattle.machine.specs.Opcodes.{kind_of, cycles_of}
use Rattle.vip_byte.specs.Reading.{read, ◌>>=◌}
use Rattle.vip_isa.specs.Rows.{decoded, size_of}
use Rattle.cycle_check.specs.declared.fault.CertCause.{CertCause}
use Rattle.cycle_check.specs.declared.fault.CertCause.TheVariants.{BadLine, NoEntry, Opcode, Step}
use Rattle.cycle_check.specs.declared.fault.CertFault.{CertFault}
use Rattle.cycle_check.specs.declared.fault.CertFault.TheVariants.{Fault}
use Rattle.cycle_check.specs.declared.grammar.Bound.{Bound}
use Rattle.cycle_check.specs.declared.grammar.Fact.{Fact}
use Rattle.cycle_check.specs.declared.grammar.Fact.TheVariants.{Any, Copy, NonZero, Is}
use Rattle.cycle_check.specs.declared.grammar.Line.{Line}
use Rattle.cycle_check.specs.declared.table.When.{When}
use Rattle.cycle_check.specs.declared.table.When.TheVariants.{Zero, NotZero}
use Rattle.cycle_check.specs.declared.table.Way.{Way}
use Rattle.cycle_check.specs.declared.table.Ways.{Ways}
use Rattle.cycle_check.specs.declared.closed.Instruction.{Instruction}
use Rattle.cycle_check.specs.declared.Within.{Within}
use Rattle.cycle_check.specs.Certificate.{certificate_of, certificate_format, numbers_from}
use Rattle.cycle_check.specs.Table.{is_refused, assigns_d, assigns_named, assigns_pointed, flow_of, ways_of, x_after, low_after}

-- ---- what a line says

-- the cycles that are left at most where the counter is v
abbrev pub left : Line → ℕ → ℕ
left line v = line.base + line.step * v

-- D where the fact and the counter tell it
abbrev pub known_d : Fact → ℕ → Option ℕ
known_d Copy v = Some v
known_d (Is byte) v = Some byte
known_d fact v = None

-- the fact allows this value of the counter
abbrev pub admits : Fact → ℕ → Bool
admits NonZero v = not (v == 0)
admits fact v = true

-- the line with an address
abbrev pub line_at : List Line → ℕ → Option Line
line_at lines address = find (λ line. line.address == address) lines

-- ---- the instruction at an address of the ROM

-- the ROM begins at 8000
abbrev pub byte_at : List ℕ → ℕ → ℕ
byte_at rom address = slice_index rom (address - 0x8000)

abbrev pub bytes_at : List ℕ → ℕ → List ℕ
bytes_at rom address = byte_at rom address ∷ byte_at rom (address + 1) ∷ byte_at rom (address + 2) ∷ []

unfoldable pub instruction_at : List ℕ → ℕ → Instruction
instruction_at rom address = record {
  op = decoded (byte_at rom address);
  size = size_of (kind_of (byte_at rom address));
  cycles = cycles_of (byte_at rom address);
  next = byte_at rom (address + 1);
  after = byte_at rom (address + 2);
}

-- X is known, and R(X) is neither the program counter nor the counter register
abbrev pub is_apart : ℕ → ℕ → Option ℕ → Bool
is_apart p k None = false
is_apart p k (Some x) = not (x == p) && not (x == k)

-- Whether an opcode is allowed at a line: all bytes of the instruction lie in the ROM, and it changes neither P nor R(P) but by going on,
-- and R(K) only where its row names it.
unfoldable pub is_allowed : Bound → Line → Instruction → Bool
is_allowed bound line i =
    nat_le 0x8000 line.address && nat_le (line.address + i.size) 0x8800
    && not (is_refused i.op.kind)
    && not (assigns_named i.op.kind && i.op.n == bound.p)
    && (not (assigns_pointed i.op.kind) || is_apart bound.p bound.k line.x)

-- ---- what holds behind an instruction

-- a way is open where D, as far as it is known, allows it
abbrev pub is_open : When → Option ℕ → Bool
is_open Zero (Some d) = d == 0
is_open NotZero (Some d) = not (d == 0)
is_open when d = true

-- the counter behind it: a value, or none where it is any value from 0 to 255
abbrev pub counter_after : ℕ → Instruction → Fact → ℕ → Option ℕ
counter_after k i fact v = if i.op.n == k then low_after i.op.kind (known_d fact v) v else Some v

-- Which facts are shown behind an instruction, by the fact of its line. `named` is whether the instruction names the counter register.

-- D is the counter: after GLO of it, or where it was and the row assigns neither
abbrev pub stays_copied : Kind → Bool → Fact → Bool
stays_copied kind named Copy = not (assigns_d kind) && not (assigns_named kind && named)
stays_copied kind named fact = false

abbrev pub is_copied : Kind → Bool → Fact → Bool
is_copied Glo true fact = true
is_copied kind named fact = stays_copied kind named fact

-- D is a byte: after LDI of it (`same` is whether the instruction's second byte is that one), or where it was and the row doesn't assign D
abbrev pub stays_loaded : Kind → ℕ → Fact → Bool
stays_loaded kind byte (Is held) = held == byte && not (assigns_d kind)
stays_loaded kind byte fact = false

abbrev pub is_loaded : Kind → Bool → ℕ → Fact → Bool
is_loaded Ldi true byte fact = true
is_loaded kind same byte fact = stays_loaded kind byte fact

-- the counter isn't 0: where it wasn't, by the fact of the line or since D was the counter and a branch on D found that it isn't 0, and the
-- row doesn't assign it; and after PLO of a D that is known and isn't 0
abbrev pub was_not_zero : Fact → When → Bool
was_not_zero Copy NotZero = true
was_not_zero NonZero when = true
was_not_zero fact when = false

abbrev pub loads_not_zero : Kind → Bool → Option ℕ → Bool
loads_not_zero Plo true (Some d) = not (d == 0)
loads_not_zero kind named d = false

abbrev pub is_shown : ℕ → Instruction → Fact → When → ℕ → Fact → Bool
is_shown k i fact when v Any = true
is_shown k i fact when v Copy = is_copied i.op.kind (i.op.n == k) fact
is_shown k i fact when v (Is byte) = is_loaded i.op.kind (i.next == byte) byte fact
is_shown k i fact when v NonZero =
    (was_not_zero fact when && not (assigns_named i.op.kind && i.op.n == k)) || loads_not_zero i.op.kind (i.op.n == k) (known_d fact v)

-- the X that a line asks for, where it asks for one, is there
abbrev pub fits_x : Option ℕ → Option ℕ → Bool
fits_x None x = true
fits_x (Some asked) None = false
fits_x (Some asked) (Some x) = asked == x

-- ---- closed lines

-- a test passes at each number below a bound
unfoldable pub passes_below : (ℕ → Bool) → ℕ → Bool
passes_below test zero = true
passes_below test (suc n) = test n && passes_below test n

-- the cycles that are left pay for the instruction, and for what is left behind it at each counter that may follow
abbrev pub pays_for : ℕ → ℕ → Line → Option ℕ → Bool
pays_for budget cycles behind (Some v) = nat_le (cycles + left behind v) budget
pays_for budget cycles behind None = passes_below (λ v. nat_le (cycles + left behind v) budget) 256

-- What is asked at a value of the counter of a way whose next address has this line, or none: the line's X, its fact, and the cycles.
-- Where there is no line the run leaves.
unfoldable pub is_kept : ℕ → Line → Instruction → When → Option Line → ℕ → Bool
is_kept k line i when None v = nat_le i.cycles (left line v)
is_kept k line i when (Some behind) v =
    fits_x behind.x (x_after i.op.kind i.op.n line.x)
    && is_shown k i line.fact when v behind.fact
    && pays_for (left line v) i.cycles behind (counter_after k i line.fact v)

-- it is asked at each value of the counter that the line allows, where the way is open
unfoldable pub holds_at : ℕ → Line → Instruction → When → Option Line → ℕ → Bool
holds_at k line i when behind v =
    not (admits line.fact v) || not (is_open when (known_d line.fact v)) || is_kept k line i when behind v

-- the line at the end of a way, if the way has an address and that has a line
abbrev pub line_behind : List Line → Way → Option Line
line_behind lines way = option_and_then (line_at lines) way.to

unfoldable pub is_way_closed : ℕ → List Line → Line → Instruction → Way → Bool
is_way_closed k lines line i way = passes_below (holds_at k line i way.when (line_behind lines way)) 256

abbrev pub are_ways_closed : ℕ → List Line → Line → Instruction → Ways → Bool
are_ways_closed k lines line i ways =
    is_way_closed k lines line i ways.first && option_map_or (is_way_closed k lines line i) ways.second true

-- the ways of an instruction at an address, and of that of a line
abbrev pub ways_from : Bound → ℕ → Instruction → Ways
ways_from bound address i = ways_of (flow_of i.op.kind i.op.n bound.p) i.size address i.next i.after

abbrev pub ways_at : Bound → Line → Instruction → Ways
ways_at bound line i = ways_from bound line.address i

-- A fact lets a way through that is open at some value of the counter which it allows: what D is under `copy` is any byte.
abbrev pub lets_through : Fact → When → Bool
lets_through (Is byte) when = is_open when (Some byte)
lets_through fact when = true

unfoldable pub is_closed : Bound → List Line → Line → Instruction → Bool
is_closed bound lines line i = are_ways_closed bound.k lines line i (ways_at bound line i)

-- ---- the check

-- why a line can't be relied on: its opcode isn't allowed, or else it isn't closed
unfoldable pub cause_at : List ℕ → Bound → List Line → Line → Option CertCause
cause_at rom bound lines line =
    if not (is_allowed bound line (instruction_at rom line.address)) then Some Opcode
    else if not (is_closed bound lines line (instruction_at rom line.address)) then Some Step
    else None

-- the first element that has a cause, with its place, where the first one has this place
abbrev pub or_else : {X : Type 0} → Option X → Option X → Option X
or_else None other = other
or_else (Some x) other = Some x

abbrev pub placed : ℕ → Option CertCause → Option (ℕ × CertCause)
placed place None = None
placed place (Some cause) = Some (place, cause)

unfoldable pub first_from : (Line → Option CertCause) → ℕ → List Line → Option (ℕ × CertCause)
first_from cause place [] = None
first_from cause place (line ∷ others) = or_else (placed place (cause line)) (first_from cause (place + 1) others)

-- the line of the entry takes every state that comes there, and leaves no more than the limit whatever the counter is
abbrev pub is_any : Fact → Bool
is_any Any = true
is_any fact = false

abbrev pub takes_all : Bound → Line → Bool
takes_all bound line = is_none line.x && is_any line.fact && nat_le (left line 255) bound.limit

unfoldable pub is_entered : Bound → List Line → Bool
is_entered bound lines = option_map_or (takes_all bound) (line_at lines bound.entry) false

-- the causes behind the grammar: at the bound's line, whose place is 0, and at the lines of the addresses, from place 1 on
unfoldable pub fault_in : List ℕ → Bound → List Line → Option (ℕ × CertCause)
fault_in rom bound lines =
    if is_entered bound lines then first_from (cause_at rom bound lines) 1 lines else Some (0, NoEntry)

abbrev pub unless : List ℕ → Bound → Option (ℕ × CertCause) → Result Within CertFault
unless numbers bound None = Ok (record { entry = bound.entry; limit = bound.limit })
unless numbers bound (Some found) = Err (Fault (slice_index numbers found.0) found.1)

-- where no line says anything, that is said of line 1
abbrev pub judged : List ℕ → List ℕ → List Line → Option Bound → Result Within CertFault
judged rom numbers lines None = Err (Fault 1 BadLine)
judged rom numbers lines (Some bound) = unless numbers bound (fault_in rom bound lines)

-- what a check of a certificate against a ROM answers: the bound, or the first fault
unfoldable pub checked : List ℕ → List ℕ → Result Within CertFault
checked rom text = do
  statements ← read certificate_format text
  judged rom (numbers_from 1 (lines text)) (certificate_of statements).lines (certificate_of statements).bound
