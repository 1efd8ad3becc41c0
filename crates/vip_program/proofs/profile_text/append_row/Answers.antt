use Rattle.std.proofs.Common.{◌≡◌, ◌+◌, ◌++◌, ◌<◌, ◌≤◌, ◌∙◌, ℕ, ap, ap₂, append-nil, append_assoc, arith, length, length-append, sym, vec_capacity}
use Rattle.std.specs.Prelude.{slice_index_or}
use Rattle.vip_program.specs.Counts.{addresses}
use Rattle.vip_program.specs.Figures.{figures_of}
use Rattle.vip_program.specs.Profile.{cycles_at, cycles_under, row_text, sums_before}
use Rattle.vip_program.specs.Sums.{row_room, rows_from}
use Rattle.vip_program.proofs.Rows.{is-not, is-so, label-room, row-told, sums-else, sums-then}
use Rattle.vip_program.proofs.profile_text.append_row.Goals as goal
use Rattle.vip_program.proofs.profile_text.append_row.Goals.{then-ne, else-ne}

pub put_row-requires-clause-told : goal.put_row-requires-clause-told
put_row-requires-clause-told g c =
    row-told c.args.counts.now c.requires.count c.args.pc c.index.result.now (omega arith)
    (c.index.ensures ∙ ap (λ n. slice_index_or c.args.counts.now.steps.items n c.index.result.now) c.from.ensures)

pub append_sums-requires : goal.append_sums-requires
append_sums-requires g c =
    let room = c.requires.room in
    omega (arith, room.2, label-room c.args.origins.now.labels room.0 room.1 c.label_of-label.result c.label_of-label.ensures.within)

pub append-requires : goal.append-requires
append-requires g c =
    let room = c.requires.room in
    let row : length c.as_slice.result.now ≤ row_room c.args.origins.now = omega (arith, c.put_row.ensures.len, ap length c.as_slice.ensures.value) in
    elim c.if-ne.branch [
      | then-ne w ↦
          rw w.text-is
          (omega (
            arith,
            row,
            w.append_sums.ensures.len,
            w.append_sums.ensures.room,
            label-room c.args.origins.now.labels room.0 room.1 c.label_of-label.result c.label_of-label.ensures.within,
            room.2,
          ))
      | else-ne w ↦ rw w.text-is (omega (arith, row, room.2))
    ]

pub returns-clause-items : goal.returns-clause-items
returns-clause-items g c points code counted same =
    let pc = c.args.pc in
    let origins = c.args.origins.now in
    let text = c.args.text.now.items in
    let below : pc < addresses = omega arith in
    let label = c.label_of-label.ensures.label code same in
    let steps : c.index.result.now ≡ figures_of (cycles_at points pc) =
    c.index.ensures
    ∙ ap (λ n. slice_index_or c.args.counts.now.steps.items n c.index.result.now) c.from.ensures
    ∙ counted.steps pc c.index.result.now below in
    let row : c.put_row.new.into.items ≡ row_text origins pc (code pc) (cycles_at points pc) =
    c.put_row.ensures.items (cycles_at points pc) steps ∙ ap (λ code. row_text origins pc code (cycles_at points pc)) (same pc below) in
    let sums : c.if-ne.text.items ≡ text ++ sums_before origins code points c.args.before pc (rows_from points (pc + 1)) =
    elim c.if-ne.branch [
      | then-ne w ↦
          ap (λ text. text.items) w.text-is
          ∙ w.append_sums.ensures.items (cycles_under origins code points c.label_of-label.result (rows_from points pc))
          (w.sums_under-sums.ensures points code counted same)
          ∙ ap (λ sums. text ++ sums)
          (sums-then origins code points c.args.before c.label_of-label.result pc below label (is-not _ (sym c.ne.ensures ∙ w.if-ne.true)))
      | else-ne w ↦
          ap (λ text. text.items) w.text-is
          ∙ sym (append-nil text)
          ∙ ap (λ sums. text ++ sums)
          (sums-else origins code points c.args.before c.label_of-label.result pc label (is-so _ (sym c.ne.ensures ∙ w.if-ne.false)))
    ] in
    c.append.ensures.items
    ∙ ap₂ (λ text row. text ++ row) sums (c.as_slice.ensures.value ∙ row)
    ∙ append_assoc text (sums_before origins code points c.args.before pc (rows_from points (pc + 1))) (row_text origins pc (code pc) (cycles_at points pc))

pub returns-clause-len : goal.returns-clause-len
returns-clause-len g c most within =
    let row : length c.as_slice.result.now ≤ row_room c.args.origins.now = omega (arith, c.put_row.ensures.len, ap length c.as_slice.ensures.value) in
    let before : length c.if-ne.text.items ≤ length c.args.text.now.items + most =
    elim c.if-ne.branch [
      | then-ne w ↦
          rw w.text-is
          (omega (
            arith,
            w.append_sums.ensures.len,
            label-room c.args.origins.now.labels most within c.label_of-label.result c.label_of-label.ensures.within,
          ))
      | else-ne w ↦ rw w.text-is (omega arith)
    ] in
    rw (c.append.ensures.items, length-append) (omega (arith, before, row))
