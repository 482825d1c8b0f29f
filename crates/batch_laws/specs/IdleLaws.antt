-- The calls behind which all is as it was.
use Rattle.std.specs.Prelude.{◌≡◌, ◌⊎◌, ◌≤◌, ◌&&◌, ℕ, zero, suc, Bool, true, false, List, [], ◌∷◌, length, map, Option, None, Some, is_none, slice_set, if◌then◌else◌, refl}
use Rattle.std.specs.Option.{option_or}
use Rattle.std.proofs.Common.{arith, ap, ◌∙◌, sym, subst, inl, inr}
use Rattle.std.proofs.lemmas.List.{length-take}
use Rattle.std.proofs.Math.ListN.{get_or-map}
use Rattle.eof_laws.specs.live_model.pm_model.Words.{Words}
use Rattle.eof_laws.specs.live_model.pm_model.ImageLaws.{IsImage-words_of}
use Rattle.eof_laws.specs.live_model.pm_model.Images.{words_of}
use Rattle.eof_laws.specs.live_model.layout_model.declared.lines.Draft.{Draft}
use Rattle.eof_laws.specs.live_model.layout_model.declared.lines.Kind.{Kind}
use Rattle.eof_laws.specs.live_model.layout_model.declared.lines.Kind.TheVariants.{File}
use Rattle.eof_laws.specs.live_model.image_model.Content.{size_of}
use Rattle.eof_laws.specs.live_model.image_model.Volume.{Volume}
use Rattle.eof_laws.specs.live_model.file_table.Files.{size_in}
use Rattle.eof_laws.specs.live_model.commute_laws.posix_types.declared.call.Call.{Call}
use Rattle.eof_laws.specs.live_model.commute_laws.posix_types.declared.call.Who.{Who}
use Rattle.eof_laws.specs.live_model.commute_laws.posix_types.declared.handle.Flags.{Flags}
use Rattle.eof_laws.specs.live_model.commute_laws.posix_types.declared.handle.Handle.{Handle}
use Rattle.eof_laws.specs.live_model.commute_laws.posix_types.declared.item.Outcome.{Outcome}
use Rattle.eof_laws.specs.live_model.commute_laws.posix_types.declared.reply.Errno.{Errno}
use Rattle.eof_laws.specs.live_model.commute_laws.posix_types.declared.reply.Reply.{Reply}
use Rattle.eof_laws.specs.live_model.commute_laws.posix_types.declared.reply.Shape.{Shape}
use Rattle.eof_laws.specs.live_model.posix_tables.declared.nodes.Node.{Node}
use Rattle.eof_laws.specs.live_model.posix_tables.Names.{exists_at, is_named, number_at}
use Rattle.eof_laws.specs.live_model.posix_tables.Nodes.{bytes_of, node_at, published_node, published_of}
use Rattle.eof_laws.specs.live_model.posix_tables.Open.{closed, is_open, opened, Tables}
use Rattle.eof_laws.specs.live_model.posix_tables.Outcomes.{answer, first}
use Rattle.eof_laws.specs.live_model.posix_spec.FileRows.{file_number, fsync_rows}
use Rattle.eof_laws.specs.live_model.posix_spec.Put.{Put, put_by, put_unless}
use Rattle.eof_laws.specs.live_model.posix_spec.Run.{after_call, begun, run}
use Rattle.eof_laws.specs.live_model.posix_spec.State.{alone, Fits, made, space, State, swept, with_node, with_published}
use Rattle.eof_laws.specs.live_model.posix_spec.Step.{close_done, dup_done, empty_file, list_done, open_done, opening, pread_done, read_done, seek_done, stat_done, step, stepped, Stepped}
use Rattle.eof_laws.specs.live_model.posix_laws.Cuts.{cut_node, cut_of}
use Rattle.eof_laws.specs.live_model.posix_laws.Lasting.{step_lasts}
use Rattle.eof_laws.specs.live_model.posix_laws.RowLaws.{stepped-keeps}
use Rattle.eof_laws.specs.live_model.crash_spec.Posix.{is_fsync, is_ok}
use Rattle.eof_laws.specs.live_model.world_model.Stands.{is_used, NodeStands, number}
use Rattle.eof_laws.specs.live_model.world_step_laws.OtherCalls.{IsWorld-same, SameShown}
use Rattle.eof_laws.specs.live_model.world_step_laws.RemoveCalls.{swept-named, swept-open}
use Rattle.eof_laws.specs.live_model.world_step_laws.Steps.{GoOn, shown_node}
use Rattle.eof_laws.specs.live_model.world_step_laws.Worlds.{IsWorld}
use Rattle.posix_mode_laws.specs.Sides.{sized}
use Rattle.batch_laws.specs.Standing.{as_claims, staged_of}
use Rattle.k_split_laws.specs.Going.{IsStep}
use Rattle.k_split_laws.specs.Lives.{leaves_same}
use Rattle.k_split_laws.specs.Seen.{SeenFor}
use Rattle.batch_laws.specs.CallSteps.{cut_seen, kept_same, live_seen, same_maps}
use Rattle.batch_laws.specs.ChangesLaws.{change_goes_on}
use Rattle.batch_laws.specs.Idle.{CloseGoesOn, LengthsAreKept, LookGoesOn, Looks, OpenGoesOn, RefusalGoesOn, row_met, StillGoesOn}
use Rattle.batch_laws.specs.Quiet.{IsQuiet}
use Rattle.batch_laws.specs.QuietLaws.{quiet_puts_none, refused_puts_none}

-- ---- one step of a volume that stays

still_step : (v : Volume) (claims : List (ℕ × Draft)) (numbers : List ℕ) (s next : State) (count : ℕ) → SeenFor v claims [] numbers s count → next.nodes ≡ s.nodes → next.entries ≡ s.entries → next.shape ≡ s.shape
    → IsStep None v v claims [] numbers numbers s next count count
still_step v claims numbers s next count seen nodes entries shape = record {
  geometry = refl;
  base = refl;
  staging = λ ino is. refl;
  leaves = leaves_same v claims;
  room = record { free = seen.room.free; blocks = ap (λ x. x.data_blocks) shape ∙ seen.room.blocks };
  takes = λ f world. IsWorld-same v claims [] f numbers s next count world (on f world) same;
} where
  same : SameShown s next
  same = record { entries = entries; count = ap (λ (xs : List Node). length xs) nodes; nodes = λ n. ap (λ (xs : List Node). shown_node (node_at xs n)) nodes; shape = shape }

  on : (f : Words) → IsWorld v claims [] f numbers s count → GoOn s next numbers []
  on f world = record { flying_on = tt; files = tt; fits = subst (λ (xs : List Node). Fits (record next { nodes = xs })) (sym nodes) (subst (λ (x : Shape). Fits (record s { shape = x })) (sym shape) world.valid.fits); room = omega arith }

pub still_goes_on : StillGoesOn
still_goes_on g k files count numbers start history item ready puts nodes entries =
    change_goes_on g k k files files count count numbers numbers start history item None k.volume ready
    (record { volume = refl; committed = refl; cells = refl; order = ready.going.order; batched = ready.going.batched; on = ready.going.on })
    (kept_same g k files count numbers start history ready None (λ t never. (let no : None ≡ Some t = never in cc))) (same_maps None k.volume k.volume numbers numbers refl refl (λ t never. (let no : None ≡ Some t = never in cc)) (λ i other. refl))
    puts (still_step (sized files.sizes k.volume) (as_claims (staged_of k.volume files)) numbers s next count (live_seen g k files count numbers start history ready) nodes entries shape)
    (still_step k.volume [] numbers (cut_of s) (cut_of next) count (cut_seen g k files count numbers start history ready) (ap (map cut_node) nodes) entries shape)
  where
    s : State
    s = run start history

    next : State
    next = after_call s (begun item)

    shape : next.shape ≡ s.shape
    shape = (step_lasts s item.who item.call).shape

-- ---- calls that only look

abbrev Stays : State → State → Type 0
Stays s t = (t.nodes ≡ s.nodes) × (t.entries ≡ s.entries)

looks_stay : (s : State) (who : Who) (call : Call) → Looks call → Stays s (step s who call).state
unfolding dup_done read_done pread_done seek_done stat_done list_done
looks_stay s who (Call.Mkdir p) is = absurd is
looks_stay s who (Call.Rmdir p) is = absurd is
looks_stay s who (Call.Unlink p) is = absurd is
looks_stay s who (Call.Rename p q) is = absurd is
looks_stay s who (Call.Open h p f) is = absurd is
looks_stay s who (Call.Close h) is = absurd is
looks_stay s who (Call.Dup h g) is = stepped-keeps (Stays s) s _ _ (refl, refl) (λ none. (refl, refl))
looks_stay s who (Call.Read h n) is = stepped-keeps (Stays s) s _ _ (refl, refl) (λ none. (refl, refl))
looks_stay s who (Call.Pread h o n) is = stepped-keeps (Stays s) s _ _ (refl, refl) (λ none. (refl, refl))
looks_stay s who (Call.Write h x) is = absurd is
looks_stay s who (Call.Pwrite h o x) is = absurd is
looks_stay s who (Call.Seek h w by) is = stepped-keeps (Stays s) s _ _ (refl, refl) (λ none. (refl, refl))
looks_stay s who (Call.Truncate h n) is = absurd is
looks_stay s who (Call.Fsync h) is = absurd is
looks_stay s who (Call.Stat p) is = stepped-keeps (Stays s) s _ _ (refl, refl) (λ none. (refl, refl))
looks_stay s who (Call.List p) is = stepped-keeps (Stays s) s _ _ (refl, refl) (λ none. (refl, refl))

looks_quiet : (s : State) (call : Call) → Looks call → IsQuiet s call
looks_quiet s (Call.Mkdir p) is = absurd is
looks_quiet s (Call.Rmdir p) is = absurd is
looks_quiet s (Call.Unlink p) is = absurd is
looks_quiet s (Call.Rename p q) is = absurd is
looks_quiet s (Call.Open h p f) is = absurd is
looks_quiet s (Call.Close h) is = absurd is
looks_quiet s (Call.Dup h g) is = tt
looks_quiet s (Call.Read h n) is = tt
looks_quiet s (Call.Pread h o n) is = tt
looks_quiet s (Call.Write h x) is = absurd is
looks_quiet s (Call.Pwrite h o x) is = absurd is
looks_quiet s (Call.Seek h w by) is = tt
looks_quiet s (Call.Truncate h n) is = absurd is
looks_quiet s (Call.Fsync h) is = absurd is
looks_quiet s (Call.Stat p) is = tt
looks_quiet s (Call.List p) is = tt

pub look_goes_on : LookGoesOn
look_goes_on g k files count numbers start history item ready looks =
    let s : State = run start history in
    let stays = looks_stay s item.who item.call looks in
    still_goes_on g k files count numbers start history item ready (quiet_puts_none s item (looks_quiet s item.call looks)) stays.0 stays.1

-- ---- open and close

open_stays : (s : State) (who : Who) (h : Handle) (p : List (List ℕ)) (f : Flags) → exists_at (space s) p ≡ true → f.truncate ≡ false → Stays s (step s who (Call.Open h p f)).state
unfolding open_done opening
open_stays s who h p f there uncut = stepped-keeps (Stays s) s _ _ (refl, refl) (λ none. (ap (λ (x : State). x.nodes) same, ap (λ (x : State). x.entries) same)) where
  same : opening s p f.truncate ≡ s
  same =
      ap (λ (b : Bool). if b then (if f.truncate then with_node s (number_at (space s) p) empty_file else s) else made s p empty_file) there
      ∙ ap (λ (b : Bool). if b then with_node s (number_at (space s) p) empty_file else s) uncut

pub open_goes_on : OpenGoesOn
open_goes_on g k files count numbers start history item h p flags ready call_is there uncut =
    let s : State = run start history in
    let stays = subst (λ c. Stays s (step s item.who c).state) (sym call_is) (open_stays s item.who h p flags there uncut) in
    still_goes_on g k files count numbers start history item ready (quiet_puts_none s item (subst (IsQuiet s) (sym call_is) (inr uncut))) stays.0 stays.1

-- a node that is set to itself
set_itself : (nodes : List Node) (n : ℕ) (x : Node) → x ≡ node_at nodes n → slice_set nodes n x ≡ nodes
set_itself [] n x is = refl
set_itself (y ∷ nodes) zero x is = ap (λ z. z ∷ nodes) is
set_itself (y ∷ nodes) (suc n) x is = ap (λ zs. y ∷ zs) (set_itself nodes n x is)

published_itself : (x : Node) → published_of x ≡ length (bytes_of x) → published_node x ≡ x
published_itself Node.Gone is = refl
published_itself Node.Directory is = refl
published_itself (Node.File file) is = ap (λ n. Node.File (record { bytes = file.bytes; published = n })) (sym is)

close_stays : (s : State) (who : Who) (h : Handle) → (is_named s.entries (file_number s.tables who h) ≡ true) ⊎ (is_open (closed s.tables who h) (file_number s.tables who h) ≡ true)
    → published_of (node_at s.nodes (file_number s.tables who h)) ≡ length (bytes_of (node_at s.nodes (file_number s.tables who h))) → Stays s (step s who (Call.Close h)).state
unfolding close_done with_published
close_stays s who h stays all = stepped-keeps (Stays s) s _ _ (refl, refl) (λ none. (ap (λ (x : State). x.nodes) (kept stays) ∙ nodes, ap (λ (x : State). x.entries) (kept stays))) where
  n : ℕ
  n = file_number s.tables who h

  shut : State
  shut = record (with_published s (file_number s.tables who h)) { tables = closed s.tables who h }

  nodes : slice_set s.nodes (file_number s.tables who h) (published_node (node_at s.nodes (file_number s.tables who h))) ≡ s.nodes
  nodes = set_itself s.nodes (file_number s.tables who h) (published_node (node_at s.nodes (file_number s.tables who h))) (published_itself (node_at s.nodes (file_number s.tables who h)) all)

  kept : (is_named s.entries (file_number s.tables who h) ≡ true) ⊎ (is_open (closed s.tables who h) (file_number s.tables who h) ≡ true)
      → swept alone (record (with_published s (file_number s.tables who h)) { tables = closed s.tables who h }) (file_number s.tables who h)
      ≡ record (with_published s (file_number s.tables who h)) { tables = closed s.tables who h }
  kept (inl named) = swept-named (record (with_published s (file_number s.tables who h)) { tables = closed s.tables who h }) (file_number s.tables who h) named
  kept (inr open_still) = swept-open (record (with_published s (file_number s.tables who h)) { tables = closed s.tables who h }) (file_number s.tables who h) open_still

pub close_goes_on : CloseGoesOn
close_goes_on g k files count numbers start history item h n ready call_is file stays all =
    let s : State = run start history in
    let on =
    subst (λ c. Stays s (step s item.who c).state) (sym call_is)
    (close_stays s item.who h
    (subst (λ m. (is_named s.entries m ≡ true) ⊎ (is_open (closed s.tables item.who h) m ≡ true)) (sym file) stays)
    (subst (λ m. published_of (node_at s.nodes m) ≡ length (bytes_of (node_at s.nodes m))) (sym file) all))
    in
    still_goes_on g k files count numbers start history item ready (quiet_puts_none s item (subst (IsQuiet s) (sym call_is) tt)) on.0 on.1

-- ---- lengths

cut_length : (v : Volume) (f : Words) (ino : ℕ) (x : Node) → published_of x ≤ length (bytes_of x) → NodeStands v [] f ino File (cut_node x) → published_of x ≡ size_of v [] ino
cut_length v f ino Node.Gone within stands = absurd stands
cut_length v f ino Node.Directory within stands = absurd stands
cut_length v f ino (Node.File file) within stands = let size = stands.size in let long = length-take file.published file.bytes in omega (arith, size, long, within)

pub lengths_are_kept : LengthsAreKept
lengths_are_kept g k files count numbers start history ino ready file = (
  cut_length k.volume seen.words ino (node_at s.nodes (number numbers ino)) (ready.going.publishing.within (number numbers ino))
      (subst (NodeStands k.volume [] seen.words ino File) (get_or-map cut_node s.nodes (number numbers ino) Node.Gone)
      (subst (λ (x : Kind). NodeStands k.volume [] seen.words ino x (node_at (cut_of s).nodes (number numbers ino))) file (seen.world.valid.stands.nodes.each ino (ap is_used file)))),
  sym (subst (λ h. size_in files ino ≡ length (bytes_of (node_at (run start h).nodes (number numbers ino)))) (sym ready.going.history_is)
      ((ready.going.world (words_of k.cells) (IsImage-words_of k.cells)).lengths.each ino file)),
) where
  s : State
  s = run start history

  seen : SeenFor k.volume [] [] numbers (cut_of s) count
  seen = cut_seen g k files count numbers start history ready

-- ---- refusals

met_row : (s : State) (o : Option Outcome) (outcome : Outcome) (last : Stepped) → o ≡ Some outcome → (stepped s o last).state ≡ s
met_row s o outcome last is = ap (λ q. (stepped s q last).state) is

met_stays : (s : State) (who : Who) (call : Call) (outcome : Outcome) → row_met s who call ≡ Some outcome → (step s who call).state ≡ s
met_stays s who (Call.Mkdir p) outcome is = met_row s _ outcome _ is
met_stays s who (Call.Rmdir p) outcome is = met_row s _ outcome _ is
met_stays s who (Call.Unlink p) outcome is = met_row s _ outcome _ is
met_stays s who (Call.Rename p q) outcome is = met_row s _ outcome _ is
met_stays s who (Call.Open h p f) outcome is = met_row s _ outcome _ is
met_stays s who (Call.Close h) outcome is = met_row s _ outcome _ is
met_stays s who (Call.Dup h g) outcome is = met_row s _ outcome _ is
met_stays s who (Call.Read h n) outcome is = met_row s _ outcome _ is
met_stays s who (Call.Pread h o n) outcome is = met_row s _ outcome _ is
met_stays s who (Call.Write h x) outcome is = met_row s _ outcome _ is
met_stays s who (Call.Pwrite h o x) outcome is = met_row s _ outcome _ is
met_stays s who (Call.Seek h w by) outcome is = met_row s _ outcome _ is
met_stays s who (Call.Truncate h n) outcome is = met_row s _ outcome _ is
met_stays s who (Call.Fsync h) outcome is = met_row s _ outcome _ is
met_stays s who (Call.Stat p) outcome is = met_row s _ outcome _ is
met_stays s who (Call.List p) outcome is = met_row s _ outcome _ is

put_refused : (o : Option Outcome) (outcome : Outcome) (put : Put) → o ≡ Some outcome → put_unless o put ≡ None
put_refused o outcome put is = ap (λ q. put_unless q put) is

met_put : (s : State) (who : Who) (call : Call) (outcome : Outcome) → row_met s who call ≡ Some outcome → put_by s who call ≡ None
unfolding put_by
met_put s who (Call.Mkdir p) outcome is = refl
met_put s who (Call.Rmdir p) outcome is = refl
met_put s who (Call.Unlink p) outcome is = refl
met_put s who (Call.Rename p q) outcome is = refl
met_put s who (Call.Open h p f) outcome is = refl
met_put s who (Call.Close h) outcome is = refl
met_put s who (Call.Dup h g) outcome is = refl
met_put s who (Call.Read h n) outcome is = refl
met_put s who (Call.Pread h o n) outcome is = refl
met_put s who (Call.Write h x) outcome is = put_refused _ outcome _ is
met_put s who (Call.Pwrite h o x) outcome is = put_refused _ outcome _ is
met_put s who (Call.Seek h w by) outcome is = refl
met_put s who (Call.Truncate h n) outcome is = refl
met_put s who (Call.Fsync h) outcome is = refl
met_put s who (Call.Stat p) outcome is = refl
met_put s who (Call.List p) outcome is = refl

-- a handle that is unknown answers no ok
unknown_fails : (t : Tables) (who : Who) (h : Handle) (outcome : Outcome) → first (fsync_rows t who h) ≡ Some outcome → is_ok outcome.reply ≡ false
unknown_fails t who h outcome is = by (is_none (opened t who h)) is where
  by : (b : Bool) → option_or (if b then Some (answer (Reply.Error Errno.EBADF)) else None) None ≡ Some outcome → is_ok outcome.reply ≡ false
  by true met = let own : answer (Reply.Error Errno.EBADF) ≡ outcome = cc in ap (λ (o : Outcome). is_ok o.reply) (sym own)
  by false met = cc

met_sync : (s : State) (who : Who) (call : Call) (outcome : Outcome) → row_met s who call ≡ Some outcome → (is_fsync call && is_ok outcome.reply) ≡ false
met_sync s who (Call.Mkdir p) outcome is = refl
met_sync s who (Call.Rmdir p) outcome is = refl
met_sync s who (Call.Unlink p) outcome is = refl
met_sync s who (Call.Rename p q) outcome is = refl
met_sync s who (Call.Open h p f) outcome is = refl
met_sync s who (Call.Close h) outcome is = refl
met_sync s who (Call.Dup h g) outcome is = refl
met_sync s who (Call.Read h n) outcome is = refl
met_sync s who (Call.Pread h o n) outcome is = refl
met_sync s who (Call.Write h x) outcome is = refl
met_sync s who (Call.Pwrite h o x) outcome is = refl
met_sync s who (Call.Seek h w by) outcome is = refl
met_sync s who (Call.Truncate h n) outcome is = refl
met_sync s who (Call.Fsync h) outcome is = unknown_fails s.tables who h outcome is
met_sync s who (Call.Stat p) outcome is = refl
met_sync s who (Call.List p) outcome is = refl

pub refusal_goes_on : RefusalGoesOn
refusal_goes_on g k files count numbers start history item outcome ready met reply =
    let s : State = run start history in
    let same = met_stays s item.who item.call outcome met in
    still_goes_on g k files count numbers start history item ready
    (refused_puts_none s item same (met_put s item.who item.call outcome met) (ap (λ r. is_fsync item.call && is_ok r) reply ∙ met_sync s item.who item.call outcome met))
    (ap (λ (t : State). t.nodes) same) (ap (λ (t : State). t.entries) same)
