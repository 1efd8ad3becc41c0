use Rattle.std.proofs.Common.{◌≡◌, ◌≤◌, ℕ, List, [], ap, sym, ◌∙◌, subst, arith, length, None}
use Rattle.std.specs.Option.{option_map}
use Rattle.machine.specs.Board.{after_reset}
use Rattle.machine.specs.Keys.{Event as KeyEvent}
use Rattle.chip8_lang.specs.State.{memory_size}
use Rattle.chip8_lang.specs.declared.view.Edition.{Edition}
use Rattle.vip_board.specs.Seen.{Seen}
use Rattle.vip_cpu.specs.declared.cpu.Phase.TheVariants.{Boundary}
use Rattle.vip_memory.specs.Contents.{loaded}
use Rattle.vip_video.specs.Chip.{nothing_yet}
use Rattle.vip_relation.specs.Follows.{Follows}
use Rattle.vip_relation.specs.Kept.{by_run, named}
use Rattle.chip8_image.specs.Interpreters.{interpreter_of}
use Rattle.vip_relation.specs.Meets.{HasStopped}
use Rattle.vip_relation.specs.Points.{point_of}
use Rattle.vip_relation.specs.State.{VipState, events_waiting, started}
use Rattle.vip_relation.specs.State.Start.{Reset}
use Rattle.vip_relation.proofs.ByRun.{whole}
use Rattle.vip_relation.proofs.Closing.{follows-begun, waiting-begun, runs-begun}
use Rattle.vip_relation.proofs.run.Run.start_as.Goals as goal

-- a board with the game in its RAM
abbrev with_game : Seen → List ℕ → Seen
with_game b game = record b { machine = record b.machine { ram = loaded b.machine.ram 0x200 game } }

abbrev reset_with : List ℕ → List KeyEvent → Seen
reset_with rom script = record { machine = after_reset; phase = Boundary; pictures = nothing_yet; rom = rom; script = script }

-- the machine that begins, by its parts
begins : (e : Edition) (game rom : List ℕ) (script : List KeyEvent) (items : List ℕ) (reset board : Seen)
    → Follows (started e game script) → items ≡ game → reset ≡ reset_with rom script → rom ≡ (interpreter_of e).rom → board ≡ with_game reset game
    → by_run (record { edition = e; start = Reset items; moves = 0; met = 0; board = board; last = None; shown = [] }) ≡ started e game script
begins e game rom script items reset board follows is_game is_reset is_rom is_board =
    ap (λ x. by_run (record { edition = e; start = Reset x; moves = 0; met = 0; board = board; last = None; shown = [] })) is_game
    ∙ ap (λ (x : Seen). by_run (record { edition = e; start = Reset game; moves = 0; met = 0; board = x; last = None; shown = [] })) with_rom
    ∙ whole (started e game script) follows
  where
    with_rom : board ≡ (started e game script).board
    with_rom = is_board ∙ ap (λ b. with_game b game) is_reset ∙ ap (λ r. record (started e game script).board { rom = r }) is_rom

pub invariant_of-result : goal.invariant_of-result
invariant_of-result c =
    let fits : length c.args.game.now ≤ memory_size c.args.edition = omega (arith, c.if-game-most_bytes.false, c.most_bytes.ensures) in
    let follows = follows-begun c.args.edition (Reset c.args.game.now) c.args.script.now (record { bytes = λ k. omega (arith, c.type_inv.game k); fits = fits }) in
    let is = begins c.args.edition c.args.game.now c.of.result.rom.now c.args.script.now _ c.in_ok-board.board _ follows
    c.in_ok-bytes.ensures.items c.in_ok-board.ensures.board c.of.ensures.rom c.load.ensures in
    record {
      follows = subst Follows (sym is) follows;
      point = sym (ap (λ (v : VipState). point_of (interpreter_of c.args.edition) v.board.machine) is);
      waiting =
          subst (λ v. events_waiting v ≡ []) (sym is)
          (waiting-begun c.args.edition (Reset c.args.game.now) c.args.script.now (record { bytes = λ k. omega (arith, c.type_inv.game k); fits = fits }));
      last = sym (ap (λ (v : VipState). option_map named v.last) is);
    }

pub returns-clause-answer : goal.returns-clause-answer
returns-clause-answer c =
    let fits : length c.args.game.now ≤ memory_size c.args.edition = omega (arith, c.if-game-most_bytes.false, c.most_bytes.ensures) in
    let follows = follows-begun c.args.edition (Reset c.args.game.now) c.args.script.now (record { bytes = λ k. omega (arith, c.type_inv.game k); fits = fits }) in
    let is = begins c.args.edition c.args.game.now c.of.result.rom.now c.args.script.now _ c.in_ok-board.board _ follows
    c.in_ok-bytes.ensures.items c.in_ok-board.ensures.board c.of.ensures.rom c.load.ensures in
    (fits, is)

pub returns-clause-follows : goal.returns-clause-follows
returns-clause-follows c =
    let fits : length c.args.game.now ≤ memory_size c.args.edition = omega (arith, c.if-game-most_bytes.false, c.most_bytes.ensures) in
    let follows = follows-begun c.args.edition (Reset c.args.game.now) c.args.script.now (record { bytes = λ k. omega (arith, c.type_inv.game k); fits = fits }) in
    let is = begins c.args.edition c.args.game.now c.of.result.rom.now c.args.script.now _ c.in_ok-board.board _ follows
    c.in_ok-bytes.ensures.items c.in_ok-board.ensures.board c.of.ensures.rom c.load.ensures in
    subst Follows (sym is) follows

pub returns-clause-runs : goal.returns-clause-runs
returns-clause-runs c =
    let fits : length c.args.game.now ≤ memory_size c.args.edition = omega (arith, c.if-game-most_bytes.false, c.most_bytes.ensures) in
    let follows = follows-begun c.args.edition (Reset c.args.game.now) c.args.script.now (record { bytes = λ k. omega (arith, c.type_inv.game k); fits = fits }) in
    let is = begins c.args.edition c.args.game.now c.of.result.rom.now c.args.script.now _ c.in_ok-board.board _ follows
    c.in_ok-bytes.ensures.items c.in_ok-board.ensures.board c.of.ensures.rom c.load.ensures in
    subst (λ v. HasStopped v → ⊥) (sym is) (runs-begun c.args.edition (Reset c.args.game.now) c.args.script.now (record { bytes = λ k. omega (arith, c.type_inv.game k); fits = fits }))
