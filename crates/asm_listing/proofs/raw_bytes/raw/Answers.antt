use Rattle.std.proofs.Common.{◌≡◌, ◌+◌, ◌-◌, ◌<◌, ◌≤◌, ◌∙◌, ℕ, Some, ap, sym, arith, inl, inr}
use Rattle.std.proofs.lemmas.Bool.{cases_lt}
use Rattle.asm_listing.specs.Raw.{first_shown, bytes_from}
use Rattle.asm_listing.proofs.Raws.{bytes_push}
use Rattle.asm_listing.proofs.raw_bytes.raw.Goals as goal

-- behind the last address, whose bytes are all shown
all_shown : (first end address : ℕ) → first ≤ address → end ≤ address → (end < address → address ≤ first) → address - first ≡ end - first
all_shown first end address from past behind = elim (cases_lt end address) [
  | inl above ↦ let last = behind above in omega arith
  | inr here ↦ omega arith
]

pub loop-address-preserved : goal.loop-address-preserved
loop-address-preserved c = record {
  bytes = rw (c.in_ok-push.ensures.items, c.loop-address.invariant.bytes, c.unwrap_or.ensures, c.byte.ensures)
      (sym (bytes_push c.args.made.now (first_shown c.args.isa c.in-Some.low) c.loop-address.address
      (omega (arith, c.loop-address.auto.address, c.first_shown-address.ensures))));
  behind = λ above. absurd (omega (arith, above, c.loop-address-test.true));
}

pub returns : goal.returns
returns c =
    let first : ℕ = first_shown c.args.isa c.in-Some.low in
    record {
      span = Some (c.in-Some.low, c.in-Some.high);
      is_span = c.in-Some.ensures;
      are = c.loop-address.invariant.bytes
          ∙ ap (bytes_from c.args.made.now first)
          (all_shown first (c.in-Some.high + 1) c.loop-address.address (omega (arith, c.loop-address.auto.address, c.first_shown-address.ensures))
          (omega (arith, c.loop-address-test.false)) c.loop-address.invariant.behind);
    }
