use Rattle.std.proofs.Common.{◌≡◌, ◌+◌, ◌∙◌, sym, ap, arith, below_more, true, length, take}
use Rattle.std.specs.Prelude.{map, not}
use Rattle.std.proofs.lemmas.List.{length-map, take-map}
use Rattle.asm_lex.specs.Names.{value_in}
use Rattle.asm_lex.specs.Spans.{text_at}
use Rattle.asm_lex.specs.Culprits.{begin_operands, first_wrong}
use Rattle.asm_lex.proofs.Opcodes.{range_first, range_none}
use Rattle.asm_lex.proofs.culprit.first_wrong.Goals as goal

pub returns-then-not-begin_operands : goal.returns-then-not-begin_operands
unfolding first_wrong
returns-then-not-begin_operands c =
    let texts = map (text_at c.args.line.now) c.args.operands.now in
    let fits : c.begin_operands.result ≡ begin_operands c.args.isa (value_in c.args.names.now) c.args.entry (take (c.loop-k.k + 1) texts) =
    c.begin_operands.ensures
    ∙ ap (begin_operands c.args.isa (value_in c.args.names.now) c.args.entry) (sym (take-map (text_at c.args.line.now) (c.loop-k.k + 1) c.args.operands.now)) in
    sym (range_first (λ k. not (begin_operands c.args.isa (value_in c.args.names.now) c.args.entry (take (k + 1) texts))) (length texts) c.loop-k.k
    (omega (arith, c.loop-k-test.true, length-map c.args.operands.now (text_at c.args.line.now)))
    (λ i under. ap not (c.loop-k.invariant i under)) (ap not (sym fits ∙ c.if-not-begin_operands.true)))

pub loop-k-preserved : goal.loop-k-preserved
loop-k-preserved c =
    let texts = map (text_at c.args.line.now) c.args.operands.now in
    let fits : c.begin_operands.result ≡ begin_operands c.args.isa (value_in c.args.names.now) c.args.entry (take (c.loop-k.k + 1) texts) =
    c.begin_operands.ensures
    ∙ ap (begin_operands c.args.isa (value_in c.args.names.now) c.args.entry) (sym (take-map (text_at c.args.line.now) (c.loop-k.k + 1) c.args.operands.now)) in
    below_more (λ i. begin_operands c.args.isa (value_in c.args.names.now) c.args.entry (take (i + 1) texts) ≡ true) c.loop-k.k c.loop-k.invariant
    (sym fits ∙ c.if-not-begin_operands.false)

pub returns : goal.returns
unfolding first_wrong
returns c =
    let texts = map (text_at c.args.line.now) c.args.operands.now in
    sym (range_none (λ k. not (begin_operands c.args.isa (value_in c.args.names.now) c.args.entry (take (k + 1) texts))) (length texts)
    (λ i below. ap not (c.loop-k.invariant i (omega (arith, c.loop-k-test.false, length-map c.args.operands.now (text_at c.args.line.now))))))
