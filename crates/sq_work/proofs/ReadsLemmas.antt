-- How the script of a run goes on by what is read, and what each step of it keeps.
use Rattle.sq_command.specs.declared.Command.{Command}
use Rattle.sq_work.specs.Scripts.{Done, Reads, Script, Stops, script_of}
use Rattle.sq_outside.specs.Folders.{Files}
use Rattle.sq_work.specs.FolderStates.{FolderState}
use Rattle.sq_work.specs.Reads.{GoesBy, IsFileRead, LeadsWith, ScriptLeads, network_read}
use Rattle.std.proofs.Common.{List, None, Option, Some, ap, append-nil, arith, append_assoc, refl, subst, sym, ℕ, [], ◌≡◌, ◌≤◌, ◌∷◌, ◌++◌, ◌∙◌}
use Rattle.sq_net.specs.declared.Network.{Network}
use Rattle.sq_command.specs.Commands.{command_in}
use Rattle.sq_command.specs.declared.Command.TheVariants as command

pub goes_then : (told : Option Files) (read more : List (List ℕ × List ℕ)) (a b c : Script) → GoesBy told read a b → GoesBy told more b c → GoesBy told (read ++ more) a c
goes_then told [] more a b c ab bc = subst (λ x. GoesBy told more x c) (sym ab) bc
goes_then told (given ∷ read) more (Reads name limit next) b c ab bc = (ab.0, ab.1, goes_then told read more (next given.1) b c ab.2 bc)
goes_then told (given ∷ read) more (Done r) b c ab bc = absurd ab
goes_then told (given ∷ read) more (Stops s) b c ab bc = absurd ab

-- where no read gave anything since
pub none_given : (before now : List (List ℕ × List ℕ)) → now ≡ before → now ≡ before ++ []
none_given before now same = same ∙ sym (append-nil before)

pub given_then : (before mid now read more : List (List ℕ × List ℕ)) → mid ≡ before ++ read → now ≡ mid ++ more → now ≡ before ++ (read ++ more)
given_then before mid now read more first next = next ∙ ap (λ (xs : List (List ℕ × List ℕ)). xs ++ more) first ∙ append_assoc before read more

-- after calls of a folder its files stay, and no count falls
abbrev pub IsLaterFolder : FolderState → FolderState → Type 0
IsLaterFolder before after = (after.told ≡ before.told) × (before.faults ≤ after.faults) × (before.taken ≤ after.taken)

pub later_then : (before mid after : FolderState) → IsLaterFolder before mid → IsLaterFolder mid after → IsLaterFolder before after
later_then before mid after first then =
    let faults : before.faults ≤ after.faults = omega (arith, first.1, then.1) in
    let taken : before.taken ≤ after.taken = omega (arith, first.2, then.2) in
    (then.0 ∙ first.0, faults, taken)

pub leads_still : (before mid after : FolderState) (a b : Script) → ScriptLeads before mid a b → after.read ≡ mid.read → ScriptLeads before after a b
leads_still before mid after a b ab same = (ab.0, ab.1, same ∙ ab.2)

pub leads_then : (before mid after : FolderState) (a b c : Script) → mid.told ≡ before.told → ScriptLeads before mid a b → ScriptLeads mid after b c → ScriptLeads before after a c
leads_then before mid after a b c same ab bc = (
  ab.0 ++ bc.0,
  goes_then before.told ab.0 bc.0 a b c ab.1 (subst (λ t. GoesBy t bc.0 b c) same bc.1),
  given_then before.read mid.read after.read ab.0 bc.0 ab.2 bc.2,
)

pub leads_read : (before after : FolderState) (name : List ℕ) (limit : ℕ) (more : List ℕ → Script) (bytes : List ℕ)
    → IsFileRead before after name limit bytes → ScriptLeads before after (Reads name limit more) (more bytes)
leads_read before after name limit more bytes got = ((name, bytes) ∷ [], (refl, got.0, refl), got.1)

-- the network was read first
network_stays : (c : Option Command) (n : Network) (read more : List (List ℕ × List ℕ)) → network_read c read ≡ Some n → network_read c (read ++ more) ≡ Some n
network_stays None n read more e = absurd (cc)
network_stays (Some (command.Run args)) n [] more e = absurd (cc)
network_stays (Some (command.Run args)) n (given ∷ read) more e = e
network_stays (Some (command.Gen number rows)) n read more e = e
network_stays (Some (command.Audit net text)) n [] more e = absurd (cc)
network_stays (Some (command.Audit net text)) n (given ∷ read) more e = e
network_stays (Some (command.Tap net stream tick history query)) n [] more e = absurd (cc)
network_stays (Some (command.Tap net stream tick history query)) n (given ∷ read) more e = e

pub with_then : (words : List (List ℕ)) (n : Network) (before mid after : FolderState) (a b : Script) → mid.told ≡ before.told → LeadsWith before mid words n a → ScriptLeads mid after a b
    → LeadsWith before after words n b
with_then words n before mid after a b same wa ab = (
  wa.0 ++ ab.0,
  goes_then before.told wa.0 ab.0 (script_of words) a b wa.1 (subst (λ t. GoesBy t ab.0 a b) same ab.1),
  network_stays (command_in words) n wa.0 ab.0 wa.2,
  given_then before.read mid.read after.read wa.0 ab.0 wa.3 ab.2,
)

-- the words lead there, whatever the network is
pub words_lead : (words : List (List ℕ)) (n : Network) (before after : FolderState) (a : Script) → LeadsWith before after words n a → ScriptLeads before after (script_of words) a
words_lead words n before after a wa = (wa.0, wa.1, wa.3)
