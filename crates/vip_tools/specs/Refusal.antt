-- The status of each refusal.
use Rattle.vip_tools.specs.declared.refusal.Kind.{Kind}
use Rattle.vip_tools.specs.declared.refusal.Kind.TheVariants.{Game, TallGame, Script, Commands, Source, Certificate, State, ProgramState, Message, Rom, Ram, Games}
use Rattle.vip_tools.specs.declared.refusal.Refusal.{Refusal}
use Rattle.vip_tools.specs.declared.refusal.Misfit.{Misfit}
use Rattle.vip_tools.specs.declared.refusal.Misfit.TheVariants as misfit
use Rattle.vip_tools.specs.declared.refusal.Refusal.TheVariants as refusal
use Rattle.vip_tools.specs.declared.status.Status.{Status}
use Rattle.vip_tools.specs.declared.status.Status.TheVariants.{Usage, ReadFault, GameTooLarge, ScriptTooLarge, BadScript, BadSource, BadRomSource, RomDiffers, NoMemory, BadCommand, SourceTooLarge, CommandsTooLarge, BadState, BadCertificate, MessageTooLarge, BadProof, CertificateTooLarge, NoCertificate, RomTooLarge, RamTooLarge, StrayByte, GamesTooLarge, BadGames}
use Rattle.chip8_source.specs.declared.fault.ImageFault.{ImageFault}
use Rattle.chip8_source.specs.declared.fault.ImageFault.TheVariants as image

abbrev pub too_large_status : Kind → Status
too_large_status Game = GameTooLarge
too_large_status TallGame = GameTooLarge
too_large_status Script = ScriptTooLarge
too_large_status Commands = CommandsTooLarge
too_large_status Source = SourceTooLarge
too_large_status Certificate = CertificateTooLarge
too_large_status State = BadState
too_large_status ProgramState = BadState
too_large_status Message = MessageTooLarge
too_large_status Rom = RomTooLarge
too_large_status Ram = RamTooLarge
too_large_status Games = GamesTooLarge

abbrev pub image_status : ImageFault → Status
image_status (image.BadRomSource line cause) = BadRomSource
image_status (image.RomDiffers address assembled here) = RomDiffers
image_status image.NoMemory = NoMemory

abbrev pub misfit_status : Misfit → Status
misfit_status (misfit.Stray address) = StrayByte
misfit_status (misfit.Game edition) = GameTooLarge

abbrev pub status_of : Refusal → Status
status_of refusal.Usage = Usage
status_of (refusal.Unread name) = ReadFault
status_of (refusal.TooLarge kind) = too_large_status kind
status_of (refusal.Script line cause) = BadScript
status_of (refusal.Command line cause) = BadCommand
status_of (refusal.Source line cause) = BadSource
status_of (refusal.Misfit misfit) = misfit_status misfit
status_of (refusal.State fault) = BadState
status_of (refusal.Rom fault) = image_status fault
status_of (refusal.Certificate line cause) = BadCertificate
status_of (refusal.Proof line cause) = BadProof
status_of (refusal.Games line cause) = BadGames
status_of (refusal.NoCertificate obstacle) = NoCertificate
status_of (refusal.NoTiming why) = NoCertificate
status_of refusal.NoMemory = NoMemory
