use Rattle.std.proofs.Common.{◌≡◌, ◌+◌, ◌*◌, ◌++◌, ◌<◌, ◌≤◌, ◌∙◌, ap, ap₂, arith, length, length-append, subst, sym, vec_capacity}
use Rattle.vip_program.specs.Profile.{cycles_at}
use Rattle.vip_program.specs.Sums.{row_room}
use Rattle.vip_program.proofs.Rows.{left, row-fits, row-grows, row-keeps, text-first, text-more, text-none, text-whole}
use Rattle.vip_program.proofs.profile_text.write_text.Goals as goal
use Rattle.vip_program.proofs.profile_text.write_text.Goals.{then-index-gt0, else-index-gt0}

pub loop-pc-init : goal.loop-pc-init
loop-pc-init g c =
    let len : length c.append.new.text.items ≤ 1_024 =
    rw (c.append.ensures.items, c.requires.empty) (omega (arith, c.put_head.ensures.len, ap length c.as_slice.ensures.value)) in
    record {
      text = λ points code counted same.
          text-first c.args.origins.now code points g.C.Codes.title c.append.new.text.items
          (c.append.ensures.items
          ∙ ap (λ text. text ++ c.as_slice.result.now) c.requires.empty
          ∙ c.as_slice.ensures.value
          ∙ c.put_head.ensures.items points counted);
      size = λ most within. omega (arith, len);
      room = c.append.ensures.room;
    }

pub append_row-before-requires-clause-room : goal.append_row-before-requires-clause-room
append_row-before-requires-clause-room g c =
    let most = c.requires.room.0 in
    let roomy = c.requires.room.1 in
    let fits =
    row-fits (length c.loop-pc.text.items) (row_room c.args.origins.now + most) c.loop-pc.pc (vec_capacity c.args.text.now) (vec_capacity c.loop-pc.text)
    c.loop-pc-test.true (c.loop-pc.invariant.size most roomy.lines) roomy.size c.loop-pc.invariant.room in
    (most, roomy.lines, omega (arith, fits))

pub loop-pc-preserved : goal.loop-pc-preserved
loop-pc-preserved g c =
    let pc = c.loop-pc.pc in
    let origins = c.args.origins.now in
    record {
      text = λ points code counted same.
          let row = c.index.ensures ∙ counted.steps pc c.index.result.now c.loop-pc-test.true in
          let so_far = c.loop-pc.invariant.text points code counted same in
          elim c.if-index-gt0.branch [
            | then-index-gt0 w ↦
                let some : 0 < length (cycles_at points pc) = subst (λ f. 0 < f.count) row w.if-index-gt0.true in
                ap₂ (λ text before. text.items ++ left origins code points before (pc + 1)) w.text-is w.before-is
                ∙ text-more origins code points g.C.Codes.title c.loop-pc.before w.append_row-before.result pc c.loop-pc.text.items
                w.append_row-before.new.text.items c.loop-pc-test.true some (w.append_row-before.ensures.items points code counted same)
                (w.append_row-before.ensures.label code same) so_far
            | else-index-gt0 w ↦
                let none : length (cycles_at points pc) ≡ 0 = let no = w.if-index-gt0.false in omega (arith, no, ap (λ f. f.count) row) in
                ap₂ (λ text before. text.items ++ left origins code points before (pc + 1)) w.text-is w.before-is
                ∙ text-none origins code points g.C.Codes.title c.loop-pc.before pc c.loop-pc.text.items c.loop-pc-test.true none so_far
          ];
      size = λ most within.
          elim c.if-index-gt0.branch [
            | then-index-gt0 w ↦
                subst (λ text. length text.items ≤ 1_024 + (row_room origins + most) * (pc + 1)) (sym w.text-is)
                (row-grows (length c.loop-pc.text.items) (length w.append_row-before.new.text.items) (row_room origins + most) pc
                (c.loop-pc.invariant.size most within) (omega (arith, w.append_row-before.ensures.len most within)))
            | else-index-gt0 w ↦
                subst (λ text. length text.items ≤ 1_024 + (row_room origins + most) * (pc + 1)) (sym w.text-is)
                (row-keeps (length c.loop-pc.text.items) (row_room origins + most) pc (c.loop-pc.invariant.size most within))
          ];
      room =
          elim c.if-index-gt0.branch [
            | then-index-gt0 w ↦
                subst (λ text. vec_capacity c.args.text.now ≤ vec_capacity text) (sym w.text-is)
                (omega (arith, w.append_row-before.ensures.room, c.loop-pc.invariant.room))
            | else-index-gt0 w ↦ subst (λ text. vec_capacity c.args.text.now ≤ vec_capacity text) (sym w.text-is) c.loop-pc.invariant.room
          ];
    }

pub returns-clause-items : goal.returns-clause-items
returns-clause-items g c points code counted same =
    text-whole c.args.origins.now code points g.C.Codes.title c.loop-pc.before c.loop-pc.pc c.loop-pc.text.items (omega arith)
    (c.loop-pc.invariant.text points code counted same)
