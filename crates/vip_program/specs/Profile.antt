-- A profile of a run: where its time goes, by points alone: of a game its dispatch points, of a program the starts of its instructions. Its text is this
-- project's profile (`docs/FORMATS.md`).
use Rattle.std.specs.Prelude.{ℕ, ◌+◌, ◌-◌, ◌*◌, ◌/◌, ◌%◌, ◌==◌, ◌&&◌, if◌then◌else◌, nat_eq, nat_le, nat_lt, min, max, Bool, List, [], ◌∷◌, ◌++◌, Option, None, unwrap_or, length, filter, map, take, codes, decimal}
use Rattle.std.specs.List.{flat_map, last_or, range_with_len, reduce, sum, take_while}
use Rattle.std.specs.Option.{option_eq, option_map_or}
use Rattle.machine.specs.Memory.{mapped_address}
use Rattle.machine.specs.Pictures.{frame}
use Rattle.asm_core.specs.Labels.{label_below, label_lines}
use Rattle.asm_core.specs.Origins.{Origins, source_end}
use Rattle.vip_byte.specs.HexText.{hex4}
use Rattle.vip_byte.specs.Text.{newline}
use Rattle.vip_program.specs.Columns.{right}
use Rattle.vip_program.specs.declared.counts.Point.{Point}

-- ---- points and steps

abbrev pub cycle_in : Option Point → ℕ
cycle_in point = option_map_or (λ point. point.cycle) point 0

-- the cycles of the first and the last point, 0 without one
abbrev pub first_cycle : List Point → ℕ
first_cycle [] = 0
first_cycle (first ∷ points) = first.cycle

abbrev pub last_cycle : List Point → ℕ
last_cycle points = cycle_in (last_or None points)

-- a step: the pc of its point, and its cycles up to the next point
pub record Step : Type 0 where
  pub pc : ℕ
  pub cycles : ℕ

-- the steps of points in order; that of the last one isn't over
unfoldable pub steps_of : List Point → List Step
steps_of [] = []
steps_of (point ∷ []) = []
steps_of (point ∷ next ∷ points) = record { pc = point.pc; cycles = next.cycle - point.cycle } ∷ steps_of (next ∷ points)

abbrev pub cycles_of : List Step → List ℕ
cycles_of steps = map (λ step. step.cycles) steps

-- the cycles of each step from an address
abbrev pub cycles_at : List Point → ℕ → List ℕ
cycles_at points pc = cycles_of (filter (λ step. step.pc == pc) (steps_of points))

-- ---- frames

-- those that begin at or behind a cycle, and end before or at another
abbrev pub whole_frames : ℕ → ℕ → List ℕ
whole_frames first last = filter (λ f. nat_le first (frame * f) && nat_le (frame * f + (frame - 1)) last) (range_with_len 0 (last + 1))

-- how many points lie in a frame, and in each whole one
abbrev pub points_in : List Point → ℕ → ℕ
points_in points f = length (filter (λ point. point.cycle / frame == f) points)

abbrev pub frame_points : List Point → List ℕ
frame_points points = map (points_in points) (whole_frames (first_cycle points) (last_cycle points))

-- ---- numbers

-- the least and the most of some numbers, 0 of none
abbrev pub least : List ℕ → ℕ
least numbers = unwrap_or (reduce min numbers) 0

abbrev pub most : List ℕ → ℕ
most numbers = unwrap_or (reduce max numbers) 0

-- hundredths of the mean of so many numbers, cut off; 0 of none
abbrev pub hundredths : ℕ → ℕ → ℕ
hundredths sum count = 100 * sum / max 1 count

-- as a number with two places
abbrev pub places_text : ℕ → List ℕ
places_text n = decimal (n / 100) ++ codes "." ++ decimal (n % 100 / 10) ++ decimal (n % 10)

-- a blank, and a number that stands right in ten places
abbrev pub column : ℕ → List ℕ
column n = codes " " ++ right 10 (decimal n)

-- ---- the text

abbrev pub steps_line : List Point → List ℕ
steps_line points =
    codes "steps " ++ decimal (length (steps_of points))
    ++ codes " cycles " ++ decimal (sum (cycles_of (steps_of points)))
    ++ codes " from " ++ decimal (first_cycle points)
    ++ codes " to " ++ decimal (last_cycle points)
    ++ newline

abbrev pub frames_text : ℕ → ℕ → ℕ → ℕ → List ℕ
frames_text count sum least most =
    codes "frames " ++ decimal count
    ++ codes " points least " ++ decimal least
    ++ codes " mean " ++ places_text (hundredths sum count)
    ++ codes " most " ++ decimal most
    ++ newline

abbrev pub frames_line : List ℕ → List ℕ
frames_line counts = frames_text (length counts) (sum counts) (least counts) (most counts)

-- with the title of the column of code
abbrev pub heading : List ℕ → List ℕ
heading title = codes "pc   " ++ title ++ codes "      steps     cycles      least       most" ++ newline

-- what a row shows of the code at its address: in its column, and in words behind the numbers; its bytes, and whether they were read through the boot latch
pub record Code : Type 0 where
  pub text : List ℕ
  pub words : List ℕ
  pub bytes : List ℕ
  pub latch : Bool

-- the row of an address, where a step began, which ends in the source's line that gave the bytes, where it is told
abbrev pub row_text : Origins → ℕ → Code → List ℕ → List ℕ
row_text origins pc code [] = []
row_text origins pc code cycles =
    hex4 pc ++ codes " " ++ code.text
    ++ column (length cycles) ++ column (sum cycles) ++ column (least cycles) ++ column (most cycles)
    ++ code.words ++ source_end origins code.latch pc code.bytes ++ newline

-- how many steps there are, and their cycles, behind the name of a label
abbrev pub sums_text : ℕ → ℕ → List ℕ
sums_text steps cycles = codes " steps " ++ decimal steps ++ codes " cycles " ++ decimal cycles ++ newline

-- the line that shows a label, with them at its end
abbrev pub sum_line : ℕ → ℕ → List ℕ → List ℕ
sum_line steps cycles line = take (length line - 1) line ++ sums_text steps cycles

-- the rows among some addresses: those at which a step began
abbrev pub rows : List Point → List ℕ → List ℕ
rows points addresses = filter (λ pc. nat_lt 0 (length (cycles_at points pc))) addresses

-- the lines of the labels of an address, with the sums of steps of so many cycles
abbrev pub sum_lines : Origins → Option ℕ → List ℕ → List ℕ
sum_lines origins label cycles =
    option_map_or (λ address. flat_map (sum_line (length cycles) (sum cycles)) (label_lines origins.labels address)) label []

module _ (origins : Origins) (code : ℕ → Code) where
  -- the address of the label to which a row belongs, if to any: the greatest at or below that from which its first byte was read
  abbrev pub label_of : ℕ → Option ℕ
  label_of pc = label_below origins.labels (mapped_address (code pc).latch pc)

  abbrev pub belongs : Option ℕ → ℕ → Bool
  belongs label pc = option_eq nat_eq (label_of pc) label

  module _ (points : List Point) where
    -- the cycles of all steps of the first rows that belong there, up to the next that belongs elsewhere
    abbrev pub cycles_under : Option ℕ → List ℕ → List ℕ
    cycles_under label pcs = flat_map (cycles_at points) (take_while (belongs label) pcs)

    -- what stands before the first of some rows, where the row before it belongs elsewhere: the lines of its label, with the sums of the rows from it on
    abbrev pub sums_before : Option ℕ → ℕ → List ℕ → List ℕ
    sums_before before pc pcs = if belongs before pc then [] else sum_lines origins (label_of pc) (cycles_under (label_of pc) (pc ∷ pcs))

    -- rows behind one that belongs there
    unfoldable pub rows_text : Option ℕ → List ℕ → List ℕ
    rows_text before [] = []
    rows_text before (pc ∷ pcs) = sums_before before pc pcs ++ row_text origins pc (code pc) (cycles_at points pc) ++ rows_text (label_of pc) pcs

unfoldable pub profile_text : List ℕ → Origins → (ℕ → Code) → List Point → List ℕ
profile_text title origins code points =
    steps_line points ++ frames_line (frame_points points) ++ heading title ++ rows_text origins code points None (rows points (range_with_len 0 0x10000))
