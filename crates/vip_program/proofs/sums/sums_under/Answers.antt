use Rattle.std.proofs.Common.{◌≡◌, ◌+◌, ◌<◌, ◌≤◌, ◌∙◌, ℕ, List, Bool, true, false, ap, arith, length, subst, sym}
use Rattle.std.specs.Prelude.{nat_eq, slice_index_or}
use Rattle.std.specs.List.{sum}
use Rattle.std.specs.Option.{option_eq}
use Rattle.vip_program.specs.Figures.{figures_of}
use Rattle.vip_program.specs.Profile.{belongs, cycles_at}
use Rattle.vip_program.proofs.Rows.{SummedTo, is-not, is-so, row-told, summed-first, summed-more, summed-none, summed-over, summed-whole}
use Rattle.vip_program.proofs.sums.sums_under.Goals as goal
use Rattle.vip_program.proofs.sums.sums_under.Goals.{then-figures-gt0+else-ne, else-figures-gt0}

pub loop-pc-init : goal.loop-pc-init
loop-pc-init g c = record {
  so_far = λ points code counted same.
      subst (λ n. SummedTo points c.args.origins.now code c.args.label c.args.from n 0 0) (sym c.from-pc.ensures)
      (summed-first points c.args.origins.now code c.args.label c.args.from);
  steps = omega arith;
  cycles = omega arith;
}

pub returns-then-ne : goal.returns-then-ne
returns-then-ne g c points code counted same =
    let row = c.index-figures.ensures ∙ counted.steps c.loop-pc.pc c.index-figures.result.now c.loop-pc-test.true in
    let some : 0 < length (cycles_at points c.loop-pc.pc) = subst (λ f. 0 < f.count) row c.if-figures-gt0.true in
    let elsewhere : belongs c.args.origins.now code c.args.label c.loop-pc.pc ≡ false =
    ap (λ l. option_eq nat_eq l c.args.label) (sym (c.label_of.ensures.label code same)) ∙ is-not _ (sym c.ne.ensures ∙ c.if-ne.true) in
    let all =
    summed-over points c.args.origins.now code c.args.label c.args.from c.loop-pc.pc c.loop-pc.sums.steps c.loop-pc.sums.cycles c.loop-pc-test.true some elsewhere
    (c.loop-pc.invariant.so_far points code counted same) in
    record { steps = all.0; total = all.1 }

pub overflow_add-sums : goal.overflow_add-sums
overflow_add-sums g c =
    let told = row-told c.args.counts.now c.requires c.loop-pc.pc c.index-figures.result.now c.loop-pc-test.true c.index-figures.ensures in
    omega (arith, told.count, c.loop-pc.invariant.steps)

pub overflow_add-sums-then-figures-gt0 : goal.overflow_add-sums-then-figures-gt0
overflow_add-sums-then-figures-gt0 g c =
    let told = row-told c.args.counts.now c.requires c.loop-pc.pc c.index-figures.result.now c.loop-pc-test.true c.index-figures.ensures in
    omega (arith, told.sum, c.loop-pc.invariant.cycles)

pub loop-pc-preserved : goal.loop-pc-preserved
loop-pc-preserved g c =
    let pc = c.loop-pc.pc in
    let figures = c.index-figures.result.now in
    let told = row-told c.args.counts.now c.requires pc figures c.loop-pc-test.true c.index-figures.ensures in
    record {
      so_far = λ points code counted same.
          let row = c.index-figures.ensures ∙ counted.steps pc figures c.loop-pc-test.true in
          let so_far = c.loop-pc.invariant.so_far points code counted same in
          elim c.if-figures-gt0.branch [
            | then-figures-gt0+else-ne w ↦
                let here : belongs c.args.origins.now code c.args.label pc ≡ true =
                ap (λ l. option_eq nat_eq l c.args.label) (sym (w.label_of.ensures.label code same)) ∙ is-so _ (sym w.ne.ensures ∙ w.if-ne.false) in
                subst (λ sums. SummedTo points c.args.origins.now code c.args.label c.args.from (pc + 1) sums.steps sums.cycles) (sym w.sums-is)
                (summed-more points c.args.origins.now code c.args.label c.args.from pc c.loop-pc.sums.steps c.loop-pc.sums.cycles figures.count figures.sum
                c.loop-pc-test.true w.if-figures-gt0.true (ap (λ f. f.count) row) (ap (λ f. f.sum) row) here so_far)
            | else-figures-gt0 w ↦
                let none : length (cycles_at points pc) ≡ 0 = let no = w.if-figures-gt0.false in omega (arith, no, ap (λ f. f.count) row) in
                subst (λ sums. SummedTo points c.args.origins.now code c.args.label c.args.from (pc + 1) sums.steps sums.cycles) (sym w.sums-is)
                (summed-none points c.args.origins.now code c.args.label c.args.from pc c.loop-pc.sums.steps c.loop-pc.sums.cycles c.loop-pc-test.true none so_far)
          ];
      steps =
          elim c.if-figures-gt0.branch [
            | then-figures-gt0+else-ne w ↦ omega (arith, ap (λ s. s.steps) w.sums-is, told.count, c.loop-pc.invariant.steps)
            | else-figures-gt0 w ↦ omega (arith, ap (λ s. s.steps) w.sums-is, c.loop-pc.invariant.steps)
          ];
      cycles =
          elim c.if-figures-gt0.branch [
            | then-figures-gt0+else-ne w ↦ omega (arith, ap (λ s. s.cycles) w.sums-is, told.sum, c.loop-pc.invariant.cycles)
            | else-figures-gt0 w ↦ omega (arith, ap (λ s. s.cycles) w.sums-is, c.loop-pc.invariant.cycles)
          ];
    }

pub returns : goal.returns
returns g c points code counted same =
    let all =
    summed-whole points c.args.origins.now code c.args.label c.args.from c.loop-pc.pc c.loop-pc.sums.steps c.loop-pc.sums.cycles (omega arith)
    (c.loop-pc.invariant.so_far points code counted same) in
    record { steps = all.0; total = all.1 }
