use Rattle.std.proofs.Common.{◌≡◌, ◌<◌, ◌∙◌, ℕ, true, false, List, [], drop, slice_index, ap, refl, sym, subst, arith, None, Some}
use Rattle.std.specs.Option.{option_map}
use Rattle.std.proofs.lemmas.List.{take_rest}
use Rattle.machine.specs.Instruction.{Regs}
use Rattle.machine.specs.Keys.{Event as KeyEvent}
use Rattle.chip8_lang.specs.declared.view.Edition.{Edition}
use Rattle.chip8_lang.specs.View.{view_at}
use Rattle.chip8_image.specs.Interpreters.{interpreter_of}
use Rattle.vip_board.specs.Seen.{Seen}
use Rattle.vip_cpu.specs.declared.cpu.Phase.TheVariants.{Boundary}
use Rattle.vip_video.specs.Chip.{nothing_before}
use Rattle.vip_text.specs.StateFile.{cycle_in, regs_in, IsAccepted}
use Rattle.vip_relation.specs.Follows.{FileFits, Follows}
use Rattle.vip_relation.specs.Kept.{by_run, named, state_of, IsKept}
use Rattle.vip_relation.specs.Meets.{HasStopped}
use Rattle.vip_relation.specs.Points.{point_of}
use Rattle.vip_relation.specs.State.{VipState, begun, events_waiting}
use Rattle.vip_relation.specs.State.Start.{Saved}
use Rattle.vip_relation.specs.declared.run.Named.{Named}
use Rattle.vip_relation.specs.declared.run.Origin.TheVariants.{File}
use Rattle.vip_relation.specs.declared.run.Waits.TheVariants.{Nothing}
use Rattle.vip_relation.specs.declared.run.Run.TheInside.{Inside}
use Rattle.vip_relation.proofs.ByRun.{whole}
use Rattle.vip_relation.proofs.Closing.{follows-begun, waiting-begun, runs-begun}
use Rattle.vip_relation.proofs.run.Run.resume.Goals as goal

-- a board at a state, by its parts
abbrev board_with : Regs → List ℕ → ℕ → ℕ → List ℕ → List KeyEvent → Seen
board_with regs ram key t rom script =
    record {
      machine = record { regs = regs; ram = ram; latch = false; on = true; key = key; cycle = t };
      phase = Boundary;
      pictures = nothing_before t;
      rom = rom;
      script = script;
    }

abbrev run_with : Edition → List ℕ → Seen → VipState
run_with e items s = by_run (record { edition = e; start = Saved items; moves = 0; met = 1; board = s; last = None; shown = [] })

-- the run that begins, by its parts
begins : (e : Edition) (f : List ℕ) (script : List KeyEvent) (items : List ℕ) (s : Seen) (regs : Regs) (ram : List ℕ) (key t : ℕ) (rom : List ℕ)
    → Follows (begun e (Saved f) script) → items ≡ f → s ≡ board_with regs ram key t rom script → regs ≡ regs_in f → ram ≡ drop 51 f
    → key ≡ slice_index f 50 → t ≡ cycle_in f → rom ≡ (interpreter_of e).rom → run_with e items s ≡ begun e (Saved f) script
begins e f script items s regs ram key t rom follows is_items is_board is_regs is_ram is_key is_cycle is_rom =
    ap (λ items. run_with e items s) is_items ∙ ap (run_with e f) board ∙ whole (begun e (Saved f) script) follows
  where
    board : s ≡ (begun e (Saved f) script).board
    board =
        is_board
        ∙ ap (λ regs. board_with regs ram key t rom script) is_regs
        ∙ ap (λ ram. board_with (regs_in f) ram key t rom script) is_ram
        ∙ ap (λ key. board_with (regs_in f) (drop 51 f) key t rom script) is_key
        ∙ ap (λ t. board_with (regs_in f) (drop 51 f) (slice_index f 50) t rom script) is_cycle
        ∙ ap (λ rom. board_with (regs_in f) (drop 51 f) (slice_index f 50) (cycle_in f) rom script) is_rom

-- what is kept then
pub record Resumed (a : Inside) (e : Edition) (f : List ℕ) (script : List KeyEvent) : Type 0 where
  pub is : state_of a ≡ begun e (Saved f) script
  pub kept : IsKept a
  pub runs : HasStopped (state_of a) → ⊥

resumed : (a : Inside) (f : List ℕ) (script : List KeyEvent) → ((k : ℕ) → slice_index f k < 256) → IsAccepted a.edition f
    → (Follows (begun a.edition (Saved f) script) → state_of a ≡ begun a.edition (Saved f) script)
    → a.waits ≡ Nothing → a.point ≡ point_of (interpreter_of a.edition) a.board.machine
    → (point : Named) → a.last ≡ Some point → point ≡ named (view_at a.edition a.board.machine) → Resumed a a.edition f script
resumed a f script bytes accepted is waits is_point point last named_is =
    let fits : FileFits a.edition f = record { bytes = bytes; accepted = accepted } in
    let follows = follows-begun a.edition (Saved f) script fits in
    let same = is follows in
    record {
      is = same;
      kept =
          record {
            follows = subst Follows (sym same) follows;
            point = is_point;
            waiting = rw waits (subst (λ v. events_waiting v ≡ []) (sym same) (waiting-begun a.edition (Saved f) script fits));
            last =
                last ∙ ap Some named_is
                ∙ ap (λ (v : VipState). Some (named (view_at a.edition v.board.machine))) same
                ∙ sym (ap (λ (v : VipState). option_map named v.last) same);
          };
      runs = subst (λ v. HasStopped v → ⊥) (sym same) (runs-begun a.edition (Saved f) script fits);
    }

pub invariant_of-result : goal.invariant_of-result
invariant_of-result c =
    let a : Inside = record {
      edition = c.in_ok-edition.edition;
      origin = File;
      bytes = c.in_ok-bytes.bytes;
      board = c.in_ok-board.board;
      moves = 0;
      met = 1;
      point = c.point_at-point.result;
      waits = Nothing;
      last = Some c.name_point-last.result;
    } in
    let r = resumed a c.args.file.now c.args.script.now (λ k. omega (arith, c.type_inv.file k)) c.in_ok-edition.ensures
    (λ follows. begins c.in_ok-edition.edition c.args.file.now c.args.script.now _ c.in_ok-board.board _ _ _ _ _ follows c.in_ok-bytes.ensures.items
    c.in_ok-board.ensures.board c.parts-registers.ensures.regs (take_rest c.args.file.now 51) refl c.cycle.ensures c.of.ensures.rom)
    refl c.point_at-point.ensures c.name_point-last.result refl c.name_point-last.ensures in
    r.kept

pub returns-clause-answer : goal.returns-clause-answer
returns-clause-answer c =
    let a : Inside = record {
      edition = c.in_ok-edition.edition;
      origin = File;
      bytes = c.in_ok-bytes.bytes;
      board = c.in_ok-board.board;
      moves = 0;
      met = 1;
      point = c.point_at-point.result;
      waits = Nothing;
      last = Some c.name_point-last.result;
    } in
    let r = resumed a c.args.file.now c.args.script.now (λ k. omega (arith, c.type_inv.file k)) c.in_ok-edition.ensures
    (λ follows. begins c.in_ok-edition.edition c.args.file.now c.args.script.now _ c.in_ok-board.board _ _ _ _ _ follows c.in_ok-bytes.ensures.items
    c.in_ok-board.ensures.board c.parts-registers.ensures.regs (take_rest c.args.file.now 51) refl c.cycle.ensures c.of.ensures.rom)
    refl c.point_at-point.ensures c.name_point-last.result refl c.name_point-last.ensures in
    (c.in_ok-edition.ensures, r.is)

pub returns-clause-follows : goal.returns-clause-follows
returns-clause-follows c =
    let a : Inside = record {
      edition = c.in_ok-edition.edition;
      origin = File;
      bytes = c.in_ok-bytes.bytes;
      board = c.in_ok-board.board;
      moves = 0;
      met = 1;
      point = c.point_at-point.result;
      waits = Nothing;
      last = Some c.name_point-last.result;
    } in
    let r = resumed a c.args.file.now c.args.script.now (λ k. omega (arith, c.type_inv.file k)) c.in_ok-edition.ensures
    (λ follows. begins c.in_ok-edition.edition c.args.file.now c.args.script.now _ c.in_ok-board.board _ _ _ _ _ follows c.in_ok-bytes.ensures.items
    c.in_ok-board.ensures.board c.parts-registers.ensures.regs (take_rest c.args.file.now 51) refl c.cycle.ensures c.of.ensures.rom)
    refl c.point_at-point.ensures c.name_point-last.result refl c.name_point-last.ensures in
    r.kept.follows

pub returns-clause-runs : goal.returns-clause-runs
returns-clause-runs c =
    let a : Inside = record {
      edition = c.in_ok-edition.edition;
      origin = File;
      bytes = c.in_ok-bytes.bytes;
      board = c.in_ok-board.board;
      moves = 0;
      met = 1;
      point = c.point_at-point.result;
      waits = Nothing;
      last = Some c.name_point-last.result;
    } in
    let r = resumed a c.args.file.now c.args.script.now (λ k. omega (arith, c.type_inv.file k)) c.in_ok-edition.ensures
    (λ follows. begins c.in_ok-edition.edition c.args.file.now c.args.script.now _ c.in_ok-board.board _ _ _ _ _ follows c.in_ok-bytes.ensures.items
    c.in_ok-board.ensures.board c.parts-registers.ensures.regs (take_rest c.args.file.now 51) refl c.cycle.ensures c.of.ensures.rom)
    refl c.point_at-point.ensures c.name_point-last.result refl c.name_point-last.ensures in
    r.runs
