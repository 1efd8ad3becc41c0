use Rattle.std.proofs.Common.{◌≡◌, ◌+◌, ◌++◌, length, drop, ap, sym, ◌∙◌, arith, subst}
use Rattle.std.specs.Prelude.{codes}
use Rattle.std.proofs.lemmas.List.{take_rest, length-drop, get_or_default}
use Rattle.std.proofs.lemmas.Bool.{eqb-true}
use Rattle.asm_listing.specs.Disassembly.{taken, starts, lines_from, disassembly, origin, ended_line}
use Rattle.vip_byte.specs.Text.{newline}
use Rattle.asm_listing.proofs.Starts.{lines-next, lines-none, disassembly-first}
use Rattle.asm_core.specs.Sources.{source_lines}
use Rattle.asm_listing.specs.WayBack.{AssemblesTo}
use Rattle.asm_listing.proofs.Assembled.{AreBytes}
use Rattle.asm_listing.proofs.WayBack.{comes_back}
use Rattle.asm_listing.proofs.instruction.disassemble.Goals as goal

pub loop-rest-init : goal.loop-rest-init
loop-rest-init c =
    let one : c.append.new.text.items ≡ codes " ORG 0x" = c.in_ok-append.ensures ∙ ap (λ t. t ++ codes " ORG 0x") c.new-text.ensures.items in
    let two : c.append-2.new.text.items ≡ origin c.args.address =
    c.in_ok-append-2.ensures ∙ ap (λ t. t ++ c.hex4.result) one ∙ ap (λ digits. codes " ORG 0x" ++ digits) c.hex4.ensures in
    let three : c.append-3.new.text.items ≡ origin c.args.address ++ newline = c.in_ok-append-3.ensures ∙ ap (λ t. t ++ newline) two in
    record {
      text = ap (λ t. t ++ lines_from c.args.isa (starts c.args.isa 0 c.from-at.result c.args.bytes.now)) three
          ∙ ap (λ a. (origin c.args.address ++ newline) ++ lines_from c.args.isa (starts c.args.isa 0 a c.args.bytes.now)) c.from-at.ensures
          ∙ disassembly-first c.args.isa c.args.address c.args.bytes.now;
      fits = omega (arith, c.from-at.ensures, c.requires.fits);
    }

pub loop-rest-preserved : goal.loop-rest-preserved
loop-rest-preserved c =
    let at = c.loop-rest.at in
    let rest = c.loop-rest.rest.now in
    let shown = c.in_ok-shown.shown in
    let is : shown ≡ taken c.args.isa rest = c.in_ok-shown.ensures.taken in
    let left : c.from.result ≡ shown = c.from.ensures in
    record {
      text = ap (λ left. c.append_line.new.text.items ++ lines_from c.args.isa (starts c.args.isa 0 (at + c.from-at-in-loop-rest.result) left))
          (take_rest rest c.from.result)
          ∙ ap (λ t. t ++ lines_from c.args.isa (starts c.args.isa 0 (at + c.from-at-in-loop-rest.result) (drop c.from.result rest))) c.in_ok-shown.ensures.line
          ∙ ap (λ n. (c.loop-rest.text.items ++ ended_line c.args.isa at rest) ++ lines_from c.args.isa
          (starts c.args.isa 0 (at + n) (drop c.from.result rest)))
          (c.from-at-in-loop-rest.ensures ∙ is)
          ∙ ap (λ n. (c.loop-rest.text.items ++ ended_line c.args.isa at rest) ++ lines_from c.args.isa
          (starts c.args.isa 0 (at + taken c.args.isa rest) (drop n rest))) (left ∙ is)
          ∙ lines-next c.args.isa c.loop-rest.text.items rest at (omega (arith, is, c.in_ok-shown.ensures.least))
          (omega (arith, is, c.in_ok-shown.ensures.most))
          ∙ c.loop-rest.invariant.text;
      fits =
          omega (
            arith,
            c.loop-rest.invariant.fits,
            c.in_ok-shown.ensures.most,
            c.from-at-in-loop-rest.ensures,
            left,
            ap length (take_rest rest
                c.from.result),
            length-drop c.from.result rest,
          );
    }

pub returns-clause-way_back : goal.returns-clause-way_back
returns-clause-way_back c =
    let bytes = c.args.bytes.now in
    let none : length c.loop-rest.rest.now ≡ 0 = eqb-true (length c.loop-rest.rest.now) 0 (sym c.loop-rest-test.ensures) in
    let whole : c.loop-rest.text.items ≡ disassembly c.args.isa c.args.address bytes =
    lines-none c.args.isa c.loop-rest.text.items c.loop-rest.rest.now c.loop-rest.at none ∙ c.loop-rest.invariant.text in
    let low : AreBytes bytes = λ k d below. omega (arith, get_or_default bytes k d 0 below, c.type_inv.bytes k) in
    subst (λ text. AssemblesTo c.args.isa (source_lines text) c.args.address bytes) (sym whole)
    (comes_back c.args.isa c.args.address bytes low c.requires)
