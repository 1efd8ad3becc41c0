use Rattle.std.proofs.Common.{ap, sym, inr, arith}
use Rattle.std.specs.Prelude.{◌≡◌, Ok, option_map}
use Rattle.std.specs.Result.{result_err, result_map_both}
use Rattle.std.proofs.lemmas.List.{map-append}
use Rattle.vip_byte.proofs.ReadingLemmas.{length-IsReadUpTo, read_line, read_none, read-refused, read-whole}
use Rattle.asm_lex.specs.Names.{number_named, value_in}
use Rattle.vip_words.specs.DebugGrammar.{command_format, spoken_command}
use Rattle.vip_words.proofs.debug_commands.read_commands.Goals as goal

pub loop-line-init : goal.loop-line-init
loop-line-init c =
    rw (c.into_iter-line-iterator.ensures.into_iter_gives, c.new-line-items.ensures, c.new-list.ensures.items)
    (read_none (command_format c.args.speaks (number_named (value_in c.args.names.now)) c.args.echo c.args.limit) c.args.text.now)

pub overflow_add-number : goal.overflow_add-number
overflow_add-number c =
    let format = command_format c.args.speaks (number_named (value_in c.args.names.now)) c.args.echo c.args.limit in
    omega (arith, length-IsReadUpTo format c.args.text.now _ c.loop-line.line-iterator c.loop-line.list.items c.loop-line.number c.loop-line.invariant)

pub loop-line-preserved : goal.loop-line-preserved
loop-line-preserved c =
    let read = rw c.in-Some.ensures.steps at c.loop-line.invariant in
    let says : (command_format c.args.speaks (number_named (value_in c.args.names.now)) c.args.echo c.args.limit).said c.in-Some.line.now ≡ Ok (option_map (spoken_command c.args.echo c.in-Some.line.now) c.in-Ok.command) =
    ap (result_map_both (option_map (spoken_command c.args.echo c.in-Some.line.now)) (λ cause. cause)) (sym c.in-Ok.ensures) in
    rw (c.in_ok-extend-in-Ok.ensures, map-append)
    (read_line (command_format c.args.speaks (number_named (value_in c.args.names.now)) c.args.echo c.args.limit) c.args.text.now _ c.in-Some.line.now c.next.new.self c.loop-line.list.items c.loop-line.number
    (option_map (spoken_command c.args.echo c.in-Some.line.now) c.in-Ok.command) read (ap result_err says) says)

pub returns-in-Err-clause-fault : goal.returns-in-Err-clause-fault
returns-in-Err-clause-fault c =
    let read = rw c.in-Some.ensures.steps at c.loop-line.invariant in
    inr (read-refused (command_format c.args.speaks (number_named (value_in c.args.names.now)) c.args.echo c.args.limit) c.args.text.now _ c.in-Some.line.now c.next.new.self c.loop-line.list.items c.loop-line.number
    c.in-Err.cause read
    (ap (λ says. result_err (result_map_both (option_map (spoken_command c.args.echo c.in-Some.line.now)) (λ cause. cause) says)) (sym c.in-Err.ensures)))

pub returns-clause-commands : goal.returns-clause-commands
returns-clause-commands c =
    let format = command_format c.args.speaks (number_named (value_in c.args.names.now)) c.args.echo c.args.limit in
    read-whole format c.args.text.now _ c.loop-line.list.items c.loop-line.number (rw c.in-None.ensures.steps.0 at c.loop-line.invariant)
