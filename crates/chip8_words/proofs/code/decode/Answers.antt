use Rattle.std.proofs.Common.{◌≡◌, ℕ, ◌+◌, ◌*◌, ◌/◌, ◌%◌, ◌<◌, ◌∙◌, IfSome, arith, refl}
use Rattle.std.proofs.lemmas.Option.{IfSome_then}
use Rattle.chip8_words.specs.Codes.{IsValid, decoded, encoded}
use Rattle.chip8_words.proofs.Decoding.{right}
use Rattle.chip8_words.proofs.code.decode.Goals as goal

fits : (opcode : ℕ) → opcode < 65536 → IfSome (decoded opcode) (λ op. IsValid op × (encoded op ≡ opcode / 256 * 256 + opcode % 256))
fits opcode l = right (opcode / 256) (opcode % 256) (omega arith) (omega arith)

whole : (opcode : ℕ) → opcode / 256 * 256 + opcode % 256 ≡ opcode
whole opcode = omega arith

pub returns : goal.returns
returns c =
    let all = fits c.args.opcode c.ranges.opcode.fits in
    rw (c.parts.ensures, c.read_instr.ensures) (record {
      parts = refl;
      valid = IfSome_then (decoded c.args.opcode) all (λ op h. h.0);
      opcode = IfSome_then (decoded c.args.opcode) all (λ op h. h.1 ∙ whole c.args.opcode);
    })
