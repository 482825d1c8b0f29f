-- How a call that puts no bytes went, as its private functions say it.
use Rattle.std.specs.Prelude.{ℕ, Option, Some, None, Result, Ok, Err}
use Rattle.posix_types.specs.declared.call.Call.{Call}
use Rattle.posix_types.specs.declared.call.Who.{Who}
use Rattle.pm_lines.specs.pm_model.Powers.{Supply}
use Rattle.world_parts.specs.world_view_laws.Begins.{LacksBeside, LosesCall, Returns, WantsMemory}
use Rattle.world_parts.specs.world_view_laws.file_calls.declared.names.outcomes.NoMemory.{NoMemory}
use Rattle.world_parts.specs.world_view_laws.Views.{WorldView}
use Rattle.world_parts.specs.declared.outcomes.Begun.{Begun}

-- the call puts no bytes
abbrev pub PutsNothing : Call → Type 0
PutsNothing (Call.Write h x) = ⊥
PutsNothing (Call.Pwrite h place x) = ⊥
PutsNothing call = Unit {0}

-- ---- whether there is room for it

-- the jobs that are out leave what it needs
abbrev pub HasRoom : WorldView → Who → Call → Type 0
HasRoom w who call = (need left : ℕ) → ¬ LacksBeside w who call need left

-- only these jobs leave too little, by these two numbers
abbrev pub IsRoomAsked : WorldView → Who → Call → Option (ℕ × ℕ) → Type 0
IsRoomAsked w who call None = HasRoom w who call
IsRoomAsked w who call (Some (need, left)) = LacksBeside w who call need left

-- ---- how it went

-- A CALL THAT PUTS NO BYTES, and for which there is room, returned, lost its power, or ran out of memory, which leaves a World only to be dropped.
abbrev pub IsBegunNow : Who → WorldView → WorldView → Supply → Supply → Result Begun NoMemory → Type 0
IsBegunNow who old new before after (Ok Begun.Done) = Returns who old new before after
IsBegunNow who old new before after (Ok (Begun.Job job)) = ⊥
IsBegunNow who old new before after (Ok (Begun.Busy ino holder)) = ⊥
IsBegunNow who old new before after (Ok (Begun.RoundOver over)) = ⊥
IsBegunNow who old new before after (Ok Begun.PowerLost) = LosesCall who old new after
IsBegunNow who old new before after (Ok Begun.ScriptEnd) = ⊥
IsBegunNow who old new before after (Err e) = WantsMemory old new after
