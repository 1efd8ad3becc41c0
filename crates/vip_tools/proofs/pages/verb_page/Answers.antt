use Rattle.std.proofs.lemmas.List.Folds.{flat_map-map}
use Rattle.vip_tools.specs.Help.{note_line, option_line, option_text, verb_page}
use Rattle.vip_tools.proofs.pages.verb_page.Goals as goal

pub returns : goal.returns
unfolding verb_page
returns c =
    let options = c.args.row.now.options.now in
    rw (
      flat_map-map option_text (λ option. option.now) options,
      flat_map-map option_line (λ option. option.now) options,
      flat_map-map note_line (λ note. note.now) c.args.notes.now,
      ← c.in_ok-verb.ensures,
      ← c.in_ok-options.ensures,
      ← c.in_ok-lines.ensures,
      ← c.in_ok-notes.ensures,
      ← c.as_slice.ensures.value,
      ← c.as_slice-2.ensures.value,
      ← c.as_slice-3.ensures.value,
      ← c.as_slice-4.ensures.value,
      ← c.as_bytes.ensures.value,
      ← c.as_bytes-2.ensures.value,
      ← c.as_bytes-3.ensures.value,
    )
    c.line.ensures
