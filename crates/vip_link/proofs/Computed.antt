-- The texts of SENDER and RECEIVER are assembled by computing.
use Rattle.std.proofs.Common.{◌≡◌, refl, true, Ok}
use Rattle.chip8_source.proofs.Gives.{gives_text, text_gives_rom}
use Rattle.vip_link.specs.Checked.{ComparesLink}
use Rattle.vip_link.specs.Roms.{sender_rom, receiver_rom, sender_text, receiver_text}

sender : gives_text sender_text sender_rom ≡ true
unfolding gives_text sender_text sender_rom
sender = refl

receiver : gives_text receiver_text receiver_rom ≡ true
unfolding gives_text receiver_text receiver_rom
receiver = refl

pub sources_give_roms : ComparesLink (Ok tt)
sources_give_roms = (text_gives_rom sender_text sender_rom sender, text_gives_rom receiver_text receiver_rom receiver)
