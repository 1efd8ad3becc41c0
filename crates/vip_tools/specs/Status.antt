-- The numbers of the statuses, and the status of each end, and of what comes to none.
use Rattle.std.specs.Prelude.{ℕ, Bool, if◌then◌else◌}
use Rattle.vip_text.specs.Endings.{Ending, ending_in}
use Rattle.vip_text.specs.Endings.Ending.{AtLimit, AtStop}
use Rattle.vip_tools.specs.declared.ended.Ended.{Ended}
use Rattle.vip_tools.specs.declared.ended.Ended.TheVariants.{Worked, Checked, Ran, Idle, Linked}
use Rattle.vip_tools.specs.declared.fault.PerformFault.{PerformFault}
use Rattle.vip_tools.specs.declared.fault.PerformFault.TheVariants as fault
use Rattle.vip_tools.specs.declared.status.Status.{Status}
use Rattle.vip_tools.specs.declared.status.Status.TheVariants.{Done, Stopped, Usage, ReadFault, GameTooLarge, ScriptTooLarge, BadScript, BadSource, BadRomSource, RomDiffers, WriteFault, NoMemory, BadCommand, SourceTooLarge, CommandsTooLarge, BadState, NoDispatch, BadCertificate, MessageTooLarge, BadProof, CertificateTooLarge, NoCertificate, RomTooLarge, RamTooLarge, StrayByte, GamesTooLarge, BadGames}

abbrev pub status_number : Status → ℕ
status_number Done = 0
status_number Stopped = 1
status_number Usage = 2
status_number ReadFault = 3
status_number GameTooLarge = 4
status_number ScriptTooLarge = 5
status_number BadScript = 6
status_number BadSource = 7
status_number BadRomSource = 8
status_number RomDiffers = 9
status_number WriteFault = 10
status_number NoMemory = 11
status_number BadCommand = 12
status_number SourceTooLarge = 13
status_number CommandsTooLarge = 14
status_number BadState = 15
status_number NoDispatch = 16
status_number BadCertificate = 17
status_number MessageTooLarge = 18
status_number BadProof = 19
status_number CertificateTooLarge = 20
status_number NoCertificate = 21
status_number RomTooLarge = 22
status_number RamTooLarge = 23
status_number StrayByte = 24
status_number GamesTooLarge = 25
status_number BadGames = 26

-- at the end of a run, and of a verb's work
abbrev pub end_status : Ending → Status
end_status AtLimit = Done
end_status (AtStop stop pc opcode) = Stopped

-- of a source that was checked, with a fault or without one
abbrev pub checked_status : Bool → Status
checked_status faulty = if faulty then BadSource else Done

abbrev pub ended_status : Ended → Status
ended_status Worked = Done
ended_status (Checked faulty) = checked_status faulty
ended_status (Ran limit end) = end_status (ending_in end)
ended_status (Idle address) = Done
ended_status (Linked sent received) = Done

-- of a verb that was opened and comes to no end
abbrev pub fault_status : PerformFault → Status
fault_status fault.NoDispatch = NoDispatch
fault_status fault.WriteFault = WriteFault
