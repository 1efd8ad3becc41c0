use Rattle.std.proofs.Common.{ap, arith}
use Rattle.std.specs.Result.{result_err}
use Rattle.std.proofs.lemmas.List.{map-append}
use Rattle.vip_byte.proofs.ReadingLemmas.{length-IsReadUpTo, read_line, read_none, read-whole}
use Rattle.vip_tools.specs.Games.{games_format}
use Rattle.vip_tools.proofs.GamesLemmas.{line-fits, refused-line}
use Rattle.vip_tools.proofs.games.read_games.Goals as goal

pub loop-line-init : goal.loop-line-init
loop-line-init c =
    rw (c.into_iter-line-iterator.ensures.into_iter_gives, c.new-line-items.ensures, c.new-games.ensures.items) (read_none games_format c.args.text.now)

pub overflow_add-number : goal.overflow_add-number
overflow_add-number c =
    omega (arith, length-IsReadUpTo games_format c.args.text.now _ c.loop-line.line-iterator c.loop-line.games.items c.loop-line.number c.loop-line.invariant, c.requires)

pub read_line-requires : goal.read_line-requires
read_line-requires c =
    let read = rw c.in-Some.ensures.steps at c.loop-line.invariant in
    let fits = line-fits c.args.text.now _ c.in-Some.line.now _ read.whole in omega (arith, fits, c.requires)

pub loop-line-preserved : goal.loop-line-preserved
loop-line-preserved c =
    let read = rw c.in-Some.ensures.steps at c.loop-line.invariant in
    rw (c.in_ok-extend-in-Ok.ensures, map-append)
    (read_line games_format c.args.text.now _ c.in-Some.line.now c.next.new.self c.loop-line.games.items c.loop-line.number c.in-Ok.game read
    (ap result_err c.in-Ok.ensures) c.in-Ok.ensures)

pub returns-in-Err : goal.returns-in-Err
returns-in-Err c =
    let read = rw c.in-Some.ensures.steps at c.loop-line.invariant in
    rw c.line_refusal.ensures
    (refused-line c.args.text.now _ c.in-Some.line.now c.next.new.self c.loop-line.games.items c.loop-line.number c.in-Err.fault read c.in-Err.ensures)

pub returns : goal.returns
returns c = read-whole games_format c.args.text.now _ c.loop-line.games.items c.loop-line.number (rw c.in-None.ensures.steps.0 at c.loop-line.invariant)
