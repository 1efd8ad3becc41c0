use Rattle.std.proofs.Common.{◌≡◌, ◌+◌, ◌++◌, ◌∷◌, [], drop, length, ap, sym, ◌∙◌, arith}
use Rattle.std.proofs.lemmas.List.{length_push}
use Rattle.asm_listing.specs.Dump.{dump_of, places_of}
use Rattle.asm_listing.specs.Row.{row_before, row_text}
use Rattle.asm_listing.proofs.Dumps.{dump-first, dump-byte, dump-none, dump-last}
use Rattle.asm_listing.proofs.hex_dump.dump.Goals.{in-Some+in_ok-make_room-in-Some, in-None+in_ok-append_row-in-None}
use Rattle.asm_listing.proofs.hex_dump.dump.Goals as goal

pub loop-address-init : goal.loop-address-init
loop-address-init c = record {
  text = ap (λ t. t ++ dump_of (row_before 0 c.new-row.result.items ++ drop 0 (places_of c.args.made.now))) c.new-text.ensures.items
      ∙ ap (λ row. dump_of (row_before 0 row ++ drop 0 (places_of c.args.made.now))) c.new-row.ensures
      ∙ dump-first c.args.made.now;
  before = omega (arith, ap length c.new-row.ensures);
  few = omega (arith, ap length c.new-row.ensures);
}

pub loop-address-preserved : goal.loop-address-preserved
loop-address-preserved c =
    let made = c.args.made.now in
    let address = c.loop-address.address in
    let text = c.loop-address.text.items in
    let row = c.loop-address.row.items in
    let rest = drop (address + 1) (places_of made) in
    let so_far = c.loop-address.invariant in
    elim c.match-byte.branch [
      | in-Some+in_ok-make_room-in-Some w ↦
          let room = w.make_room.new.row.items in
          let items : c.match-byte.row.items ≡ room ++ w.in-Some.byte ∷ [] = ap (λ r. r.items) w.row-is ∙ w.push.ensures.items in
          let grown : length c.match-byte.row.items ≡ length room + 1 = ap length items ∙ length_push room w.in-Some.byte in
          record {
            text = ap (λ t. t.items ++ dump_of (row_before (address + 1) c.match-byte.row.items ++ rest)) w.text-is
                ∙ ap (λ r. w.make_room.new.text.items ++ dump_of (row_before (address + 1) r ++ rest)) items
                ∙ dump-byte made address w.in-Some.byte w.make_room.new.text.items room c.loop-address-test.true w.in_ok-make_room-in-Some.ensures.few
                (sym w.in-Some.is ∙ c.byte.ensures)
                ∙ w.in_ok-make_room-in-Some.ensures.text (drop address (places_of made))
                ∙ so_far.text;
            before = omega (arith, grown, w.in_ok-make_room-in-Some.ensures.few);
            few = omega (arith, grown, w.in_ok-make_room-in-Some.ensures.room);
          }
      | in-None+in_ok-append_row-in-None w ↦
          let items : c.match-byte.row.items ≡ [] = ap (λ r. r.items) w.row-is ∙ w.clear.ensures in
          record {
            text = ap (λ t. t.items ++ dump_of (row_before (address + 1) c.match-byte.row.items ++ rest)) w.text-is
                ∙ ap (λ r. w.append_row.new.text.items ++ dump_of (row_before (address + 1) r ++ rest)) items
                ∙ ap (λ t. t ++ dump_of (row_before (address + 1) [] ++ rest))
                (w.in_ok-append_row-in-None.ensures ∙ ap (λ r. text ++ row_text address r) w.as_slice.ensures.value)
                ∙ dump-none made address text row c.loop-address-test.true so_far.few (sym w.in-None.is ∙ c.byte.ensures)
                ∙ so_far.text;
            before = omega (arith, ap length items);
            few = omega (arith, ap length items);
          }
    ]

pub returns : goal.returns
returns c =
    let made = c.args.made.now in
    let text = c.loop-address.text.items in
    let row = c.loop-address.row.items in
    let so_far = c.loop-address.invariant in
    let all : c.loop-address.address ≡ 65536 = omega (arith, c.loop-address.auto.address-end) in
    c.in_ok-append_row.ensures ∙ ap (λ r. text ++ row_text 65536 r) c.as_slice-2.ensures.value
    ∙ dump-last made text row so_far.few
    ∙ ap (λ a. text ++ dump_of (row_before a row ++ drop a (places_of made))) (sym all)
    ∙ so_far.text
