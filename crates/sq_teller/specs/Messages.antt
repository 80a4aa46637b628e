-- The programs' names, the message of each status and its number.
use Rattle.std.specs.Prelude.{ℕ, List, [], ◌++◌, codes}
use Rattle.std.specs.Fmt.{decimal}
use Rattle.sq_refusal.specs.Refusals.{refusal_text}
use Rattle.sq_teller.specs.declared.KeyWhy.{KeyWhy}
use Rattle.sq_teller.specs.declared.KeyWhy.TheVariants as why
use Rattle.sq_teller.specs.declared.Program.{Program}
use Rattle.sq_teller.specs.declared.Program.TheVariants as program
use Rattle.sq_teller.specs.declared.Ending.{Ending}
use Rattle.sq_teller.specs.declared.Ending.TheVariants as status

abbrev pub name_text : Program → List ℕ
name_text program.Keys = codes "aurora_keys"
name_text program.Slices = codes "aurora_slices"

abbrev pub usage_text : Program → List ℕ
usage_text program.Keys = codes "aurora_keys [--on-time] NET SOURCE=FIELD.."
usage_text program.Slices = codes "aurora_slices [--delay TICKS] NET"

abbrev pub key_why_text : KeyWhy → List ℕ
key_why_text why.NoSource = codes "NoSource"
key_why_text why.Twice = codes "Twice"
key_why_text why.NoField = codes "NoField"

-- the line of a status; Ok and Lost have none
abbrev pub ending_message : Program → Ending → List ℕ
ending_message p status.Ok = []
ending_message p status.Lost = []
ending_message p status.Usage = name_text p ++ (codes ": usage: " ++ (usage_text p ++ codes "\n"))
ending_message p (status.BadNetwork e) = name_text p ++ (codes ": network: " ++ (refusal_text e ++ codes "\n"))
ending_message p (status.FolderFault name) = name_text p ++ (codes ": cannot read " ++ (name ++ codes "\n"))
ending_message p status.SinkFault = name_text p ++ codes ": output failed\n"
ending_message p (status.TooLong name) = name_text p ++ (codes ": file too long: " ++ (name ++ codes "\n"))
ending_message p status.Memory = name_text p ++ codes ": out of memory\n"
ending_message p (status.BadKey key w) = name_text p ++ (codes ": key " ++ (decimal key ++ (codes ": " ++ (key_why_text w ++ codes "\n"))))

-- the number with which a program ends
abbrev pub ending_code : Ending → ℕ
ending_code status.Ok = 0
ending_code status.Lost = 1
ending_code status.Usage = 2
ending_code (status.BadNetwork e) = 3
ending_code (status.FolderFault name) = 7
ending_code status.SinkFault = 10
ending_code (status.TooLong name) = 11
ending_code status.Memory = 12
ending_code (status.BadKey key w) = 18
