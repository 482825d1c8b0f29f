-- A logged write in flight, and the valid world.
use Rattle.std.specs.Prelude.{◌≡◌, ◌≢◌, ℕ, ◌+◌, ◌-◌, ◌*◌, ◌/◌, ◌<◌, ◌≤◌, true, false, List, [], ◌∷◌, length, map, filter, Option, Some, IsSome, slice_index}
use Rattle.name_laws.specs.volume_laws.image_model.pm_model.Words.{byte_of, Words}
use Rattle.name_laws.specs.volume_laws.image_model.extent_model.Extents.{disk_at, is_within}
use Rattle.name_laws.specs.volume_laws.image_model.layout_model.declared.lines.Draft.{Draft}
use Rattle.name_laws.specs.volume_laws.image_model.layout_model.declared.lines.Kind.TheVariants.{Staging}
use Rattle.name_laws.specs.volume_laws.image_model.layout_model.Entries.{is_draft}
use Rattle.name_laws.specs.volume_laws.image_model.layout_model.EntryLaws.{FitsDraft}
use Rattle.name_laws.specs.volume_laws.image_model.Content.{byte_in, disk_of}
use Rattle.name_laws.specs.volume_laws.image_model.Live.{is_live}
use Rattle.name_laws.specs.volume_laws.image_model.Rules.{AreApart, HasStagingBlocks}
use Rattle.name_laws.specs.volume_laws.image_model.Volume.{extents, inode, Volume}
use Rattle.crash_spec.specs.posix_laws.posix_types.declared.call.Call.{Call}
use Rattle.crash_spec.specs.posix_laws.posix_types.declared.call.Who.{Who}
use Rattle.crash_spec.specs.posix_laws.posix_tables.Nodes.{bytes_of, node_at}
use Rattle.crash_spec.specs.posix_laws.posix_spec.Run.{Unfinished}
use Rattle.crash_spec.specs.posix_laws.posix_spec.State.{Fits, State}
use Rattle.crash_spec.specs.Sync.{IsPartOf}
use Rattle.crash_spec.specs.list_laws.Members.{In}
use Rattle.crash_spec.specs.posix_laws.Puts.{PutsWhole}
use Rattle.crash_spec.specs.posix_laws.Views.{AreAfforded}
use Rattle.world_model.specs.Stands.{entries_of, number, Stands}

-- A logged write that has begun and not returned: its caller and call, its entry, the bytes that its file has afterwards,
-- and those that its file has if its entry is found now. In strict mode the two are the same; in sync mode bytes below the
-- old length are written when it finishes.
pub record Job : Type 0 where
  pub who : Who
  pub call : Call
  pub draft : Draft
  pub whole : List ℕ
  pub found : List ℕ

abbrev pub unfinished_call : Job → Unfinished
unfinished_call j = (j.who, j.call)

-- the bytes that a write puts; other calls put none
abbrev pub put_bytes_of : Call → List ℕ
put_bytes_of (Call.Write h x) = x
put_bytes_of (Call.Pwrite h place x) = x
put_bytes_of call = []

-- Where its first byte lies, if the file ends behind its last one; else a byte behind that. Its bytes that lie before the first block of its
-- entry are those that sync mode writes in place when it finishes.
abbrev pub front_from : Job → ℕ
front_from j = length j.whole - length (put_bytes_of j.call)

abbrev pub IsInFront : Job → ℕ → Type 0
IsInFront j i = (front_from j ≤ i) × (i < 4096 * j.draft.file_block)

-- THE TWO PARTS OF A WRITE: its bytes before the first block of its entry are those of the call; of all others what is found is the whole.
pub record HasParts (j : Job) : Type 0 where
  pub front : (i : ℕ) → IsInFront j i → slice_index j.whole i ≡ slice_index (put_bytes_of j.call) (i - front_from j)
  pub within_file : (i : ℕ) → IsInFront j i → i < length j.found
  pub rest : (i : ℕ) → ¬ IsInFront j i → slice_index j.found i ≡ slice_index j.whole i

-- the disk block of block k of an entry; the block is one of those of the entry
abbrev pub staged_block : Volume → Draft → ℕ → Option ℕ
staged_block v d k = disk_at (extents v d.staging) (d.staging_block + k)

abbrev pub IsStagedIn : Volume → Draft → ℕ → Type 0
IsStagedIn v d b = (k : ℕ) × (k < d.count) × (staged_block v d k ≡ Some b)

-- the blocks of an entry hold the bytes of the file, and zeros behind their end
abbrev pub HoldsWhole : Volume → Words → Draft → List ℕ → Type 0
HoldsWhole v f d whole =
    (k b i : ℕ) → k < d.count → staged_block v d k ≡ Some b → i < 4096 → byte_of f (4096 * b + i) ≡ slice_index whole (4096 * (d.file_block + k) + i)

-- the live claims, in the order in which they were made
abbrev pub live_claims : Volume → List (ℕ × Draft) → List Draft
live_claims v claims = filter (is_live v) (map (λ (c : ℕ × Draft). c.1) claims)

-- A job stands: its entry is one that a log line can hold; it would be the next live one of its file, with the size of what is found; outside the entry's
-- blocks the file has what is found already, and within them what is found is the whole bytes; each byte that is still to be written in place has a block;
-- its blocks are in a staging file, apart from those of live entries; and its call puts its whole bytes, of which what is found is a part.
pub record JobStands (v : Volume) (live : List Draft) (f : Words) (numbers : List ℕ) (s : State) (j : Job) : Type 0 where
  pub draft : is_draft j.draft ≡ true
  pub fields : FitsDraft j.draft
  pub alive : is_live v j.draft ≡ true
  pub order : j.draft.order ≡ (inode v j.draft.ino).applied + length (entries_of j.draft.ino live) + 1
  pub size : j.draft.size ≡ length j.found
  pub rest : (i : ℕ) → i < length j.found → is_within j.draft.file_block j.draft.count (i / 4096) ≡ false → byte_in f (disk_of v live j.draft.ino (i / 4096)) i ≡ slice_index j.found i
  pub within : (i : ℕ) → is_within j.draft.file_block j.draft.count (i / 4096) ≡ true → slice_index j.found i ≡ slice_index j.whole i
  pub parts : HasParts j
  pub placed : (i : ℕ) → IsInFront j i → IsSome (disk_of v live j.draft.ino (i / 4096))
  pub staging : (inode v j.draft.staging).kind ≡ Staging
  pub staged : HasStagingBlocks v j.draft
  pub apart : (d : Draft) → In d live → AreApart d j.draft
  pub puts : PutsWhole s j.who j.call (number numbers j.draft.ino) j.whole
  pub part : IsPartOf (bytes_of (node_at s.nodes (number numbers j.draft.ino))) j.whole j.found

-- two jobs are of two files, and share no staging block
pub record AreApartJobs (i j : Job) : Type 0 where
  pub files : i.draft.ino ≢ j.draft.ino
  pub staging : AreApart i.draft j.draft

abbrev pub ApartFrom : Job → List Job → Type 0
ApartFrom i [] = Unit {0}
ApartFrom i (j ∷ jobs) = AreApartJobs i j × ApartFrom i jobs

-- each job stands, apart from those behind it
abbrev pub JobsStand : Volume → List Draft → Words → List ℕ → State → List Job → Type 0
JobsStand v live f numbers s [] = Unit {0}
JobsStand v live f numbers s (j ∷ jobs) = JobStands v live f numbers s j × ApartFrom j jobs × JobsStand v live f numbers s jobs

-- THE WORLD IS VALID: what is staged and claimed stands for the state, each job stands, what files hold leaves the reserve,
-- and all jobs together find room.
pub record Valid (v : Volume) (claims : List (ℕ × Draft)) (jobs : List Job) (f : Words) (numbers : List ℕ) (s : State) : Type 0 where
  pub stands : Stands v (live_claims v claims) f numbers s
  pub out : JobsStand v (live_claims v claims) f numbers s jobs
  pub fits : Fits s
  pub room : AreAfforded s (map unfinished_call jobs)
