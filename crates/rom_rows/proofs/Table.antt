-- What holds of every block of the table.
use Rattle.rom_rows.specs.Table.{Block}
use Rattle.rom_rows.specs.Table.Block.{OfFetch, OfArith, OfMemory, OfSprite, OfTimer, OfKey}
use Rattle.rom_rows.proofs.Facts.{BlockFacts}
use Rattle.rom_rows.proofs.FetchFacts.{fetch_facts}
use Rattle.rom_rows.proofs.ArithFacts.{arith_facts}
use Rattle.rom_rows.proofs.MemoryFacts.{memory_facts}
use Rattle.rom_rows.proofs.SpriteFacts.{sprite_facts}
use Rattle.rom_rows.proofs.TimerFacts.{timer_facts}
use Rattle.rom_rows.proofs.KeyFacts.{key_facts}

pub block_facts : (l : Block) → BlockFacts l
block_facts (OfFetch l) = fetch_facts l
block_facts (OfArith l) = arith_facts l
block_facts (OfMemory l) = memory_facts l
block_facts (OfSprite l) = sprite_facts l
block_facts (OfTimer l) = timer_facts l
block_facts (OfKey l) = key_facts l
