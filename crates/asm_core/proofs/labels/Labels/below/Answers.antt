use Rattle.std.proofs.Common.{◌≡◌, ◌<◌, ◌≤◌, ◌-◌, ◌+◌, ◌∙◌, ℕ, arith, ap, sym, length}
use Rattle.std.specs.Prelude.{vec_len}
use Rattle.std.proofs.lemmas.Bool.{eqb-true}
use Rattle.std.proofs.lemmas.List.{length-map}
use Rattle.asm_core.specs.Labels.{shown_label}
use Rattle.asm_core.proofs.Below.{below-first, below-here, below-more, last_below, leads-inside, leads-outside, none-below}
use Rattle.asm_core.proofs.labels.Labels.below.Goals as goal

pub returns-then-is_empty : goal.returns-then-is_empty
returns-then-is_empty c =
    let long : length c.args.self.now ≡ vec_len c.self.inside.list =
    ap length (sym c.self.view_is) ∙ length-map c.self.inside.list.items shown_label ∙ sym c.self.inside.list.ok.0 in
    sym (none-below c.args.self.now c.args.address (long ∙ eqb-true (vec_len c.self.inside.list) 0 (sym c.is_empty.ensures ∙ c.if-is_empty.true)))

pub loop-below-init : goal.loop-below-init
loop-below-init c = record {
  none = below-first c.args.self.now c.args.address ∙ ap (λ n. last_below c.args.self.now (n + 1)) (sym c.from-below.ensures);
}

pub returns-then-first_at-len : goal.returns-then-first_at-len
returns-then-first_at-len c =
    let labels = c.args.self.now in
    let long : length labels ≡ vec_len c.self.inside.list =
    ap length (sym c.self.view_is) ∙ length-map c.self.inside.list.items shown_label ∙ sym c.self.inside.list.ok.0 in
    let up : c.loop-below.below ≡ c.loop-below.below - 1 + 1 = omega arith in
    let inside : c.first_at.result < length labels = omega (arith, long) in
    sym
    (c.loop-below.invariant.none
    ∙ ap (last_below labels) up
    ∙ below-here labels (c.loop-below.below - 1) (leads-inside labels c.first_at.result (c.loop-below.below - 1) c.first_at.ensures inside))

pub loop-below-preserved : goal.loop-below-preserved
loop-below-preserved c =
    let labels = c.args.self.now in
    let long : length labels ≡ vec_len c.self.inside.list =
    ap length (sym c.self.view_is) ∙ length-map c.self.inside.list.items shown_label ∙ sym c.self.inside.list.ok.0 in
    let up : c.loop-below.below ≡ c.loop-below.below - 1 + 1 = omega arith in
    let past : length labels ≤ c.first_at.result = omega (arith, long) in
    record {
      none =
          c.loop-below.invariant.none
          ∙ ap (last_below labels) up
          ∙ below-more labels (c.loop-below.below - 1) (leads-outside labels c.first_at.result (c.loop-below.below - 1) c.first_at.ensures past);
    }
