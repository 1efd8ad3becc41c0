-- What the blocks of the fetch come to.
use Rattle.std.proofs.Common.{refl}
use Rattle.machine.specs.Board.{Machine}
use Rattle.machine.specs.Ranges.{FitsMachine, FitsRom}
use Rattle.chip8_lang.specs.declared.view.Edition.{Edition}
use Rattle.chip8_image.specs.declared.parts.Part.TheVariants.{Fetch as IsFetch}
use Rattle.rom_law.specs.Rows.{Since}
use Rattle.rom_law.proofs.Kept.{RunsBlock}
use Rattle.rom_rows.specs.FetchBlocks.{FetchBlock}
use Rattle.rom_rows.specs.FetchBlocks.FetchBlock.{Fetch, Upper, Inside, Outside, Misc, Unknown83, Leave, Stop, Stopped}
use Rattle.rom_rows.specs.Table.{Head, calm_pieces}
use Rattle.rom_rows.specs.Table.Block.{OfFetch}
use Rattle.rom_rows.proofs.Bytes.{with_part_fits}
use Rattle.rom_parts.specs.fetch.Code.{fetch_code}
use Rattle.rom_parts.proofs.Parts.{Comes, calm_comes}
use Rattle.rom_parts.proofs.Rom.{both, quick}
use Rattle.rom_parts.proofs.fetch.Fetch.{fetch_comes, upper_comes}
use Rattle.rom_parts.proofs.fetch.Dispatch.{inside_comes}
use Rattle.rom_parts.proofs.fetch.Misc.{misc_comes, unknown_comes}
use Rattle.rom_parts.proofs.fetch.Stops.{outside_comes, leave_comes, stop_comes, stopped_comes}

pub fetch_block : (e : Edition) (l : FetchBlock) (b : Machine) (h : Since) → FitsMachine b → Head (quick fetch_code e) (OfFetch l) b h
    → RunsBlock (quick fetch_code e) (calm_pieces (quick fetch_code e)) (OfFetch l) b h
fetch_block e Fetch b h f o = fetch_comes e b h f o.0 o.1
fetch_block e Upper b h f o = upper_comes e b h f o.0.0 o.0.1 o.1
fetch_block e Inside b h f o = inside_comes e b h f o.0.0 o.0.1 o.1
fetch_block e Outside b h f o = outside_comes e b h f o.0.0 o.0.1 o.1
fetch_block e (Misc i) b h f o = misc_comes e b h f i o.0.2 o.0.0 o.0.1 o.1
fetch_block e Unknown83 b h f o = unknown_comes e b h f o.0.0 o.0.1 o.1
fetch_block e (Leave i) b h f o = leave_comes e b h f i o.0.1 o.0.0 o.1
fetch_block e Stop b h f o = stop_comes e b h f o.0 o.1
fetch_block e Stopped b h f o = stopped_comes e b h f o.0 o.1

pub fits : (e : Edition) → FitsRom (both fetch_code e)
fits = with_part_fits fetch_code refl

pub comes : Comes IsFetch (both fetch_code)
comes = calm_comes IsFetch (both fetch_code) fetch_block (λ e l. absurd l)
