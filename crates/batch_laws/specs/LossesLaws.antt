-- The begin of a call that gathers, and where the power goes in it.
use Rattle.std.specs.Prelude.{ℕ, List, []}
use Rattle.std.proofs.Common.{sym, subst, inl, inr}
use Rattle.eof_laws.specs.live_model.pm_model.declared.Cell.{Cell}
use Rattle.eof_laws.specs.live_model.layout_model.Places.{Geometry}
use Rattle.eof_laws.specs.live_model.image_model.Volume.{Volume}
use Rattle.eof_laws.specs.live_model.file_table.Files.{Files}
use Rattle.eof_laws.specs.live_model.k_split_model.View.{View}
use Rattle.eof_laws.specs.live_model.commute_laws.posix_types.declared.item.Item.{Item}
use Rattle.eof_laws.specs.live_model.posix_spec.State.{State}
use Rattle.eof_laws.specs.live_model.world_image_laws.Images.{HasLogHome}
use Rattle.eof_laws.specs.live_model.world_image_laws.Promised.{KeepsPromise}
use Rattle.batch_laws.specs.Promise.{IsAtHome}
use Rattle.batch_laws.specs.PromiseLaws.{going_is_promised}
use Rattle.batch_laws.specs.CommitsLaws.{commit_goes_on, commit_keeps_log, commit_keeps_promise}
use Rattle.batch_laws.specs.Losses.{BeginGoesOn, BeginKeepsLog, ChangeKeepsLog, LossKeepsPromise}
use Rattle.batch_laws.specs.Ready.{GoesReady}

pub begin_goes_on : BeginGoesOn
begin_goes_on g k mid files count numbers start history ready (inl same) = subst (λ (m : View). GoesReady g m files count numbers start history) (sym same) ready
begin_goes_on g k mid files count numbers start history ready (inr committed) = (commit_goes_on g k mid files count numbers start history ready committed).ready

pub begin_keeps_log : BeginKeepsLog
begin_keeps_log g k mid files count numbers start history ready (inl same) home = subst (λ (m : View). HasLogHome m.committed m.cells []) (sym same) home
begin_keeps_log g k mid files count numbers start history ready (inr committed) home = commit_keeps_log g k mid files count numbers start history ready committed home

pub change_keeps_log : ChangeKeepsLog
change_keeps_log k l w gathered home =
    subst (λ (v : Volume). HasLogHome v l.cells []) (sym gathered.committed) (subst (λ (d : List Cell). HasLogHome k.committed d []) (sym gathered.cells) home)

-- a device that is ready, with its log lines at home
at_home : (g : Geometry) (k : View) (files : Files) (count : ℕ) (numbers : List ℕ) (start : State) (history : List Item) → GoesReady g k files count numbers start history → HasLogHome k.committed k.cells [] → IsAtHome k files
at_home g k files count numbers start history ready home = record { geometry = ready.geometry; base = ready.base; log = home; room = ready.room }

pub loss_keeps_promise : LossKeepsPromise
loss_keeps_promise g k l files count numbers start history unfinished ready home (inl cut) = commit_keeps_promise g k l files count numbers start history unfinished ready home cut
loss_keeps_promise g k l files count numbers start history unfinished ready home (inr begun) =
    let mid = begun.0 in
    let behind = begin_goes_on g k mid files count numbers start history ready begun.1 in
    let log = begin_keeps_log g k mid files count numbers start history ready begun.1 home in
    subst (λ (d : List Cell). KeepsPromise g d start history unfinished) (sym begun.2)
    (going_is_promised g mid files count numbers start history unfinished behind.going (at_home g mid files count numbers start history behind log))
