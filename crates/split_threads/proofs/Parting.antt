-- What came back is parted, one after another.
use Rattle.std.specs.Prelude.{◌≡◌, ◌<◌, ◌≤◌, ◌+◌, ℕ, List, [], ◌∷◌, ◌++◌, length, map, Option, Some, None, vec_capacity, refl}
use Rattle.std.specs.List.{cons_option, filter_map}
use Rattle.std.proofs.Common.{arith, ap, ◌∙◌, sym, length-append}
use Rattle.std.proofs.lemmas.List.{length-map}
use Rattle.oplog_tail.specs.Seats.{SeatView}
use Rattle.ruled_turn.specs.Passes.{PassView}
use Rattle.thread_laws.specs.world_view_laws.write_jobs.Jobs.{FilledView, JobView}
use Rattle.thread_laws.specs.Hands.{HandView}
use Rattle.thread_laws.specs.Returned.{filled_left, job_left}
use Rattle.split_threads.specs.Parted.{ArePartedFrom, as_list, HasRoom, IsPartedMore, IsRoom}
use Rattle.split_threads.specs.declared.closes.Parted.{Parted}
use Rattle.split_threads.specs.declared.starting.Back.{Back}
use Rattle.split_threads.specs.declared.turns.Held.{Held}

-- ---- lists with one more

pub map_more : {X Y : Type 0} (g : X → Y) (xs : List X) (x : X) → map g (xs ++ x ∷ []) ≡ map g xs ++ g x ∷ []
map_more g [] x = refl
map_more g (y ∷ xs) x = ap (λ ys. g y ∷ ys) (map_more g xs x)

one_option : {Y : Type 0} (o : Option Y) → cons_option o [] ≡ as_list o
one_option None = refl
one_option (Some y) = refl

option_front : {Y : Type 0} (o : Option Y) (ys zs : List Y) → cons_option o (ys ++ zs) ≡ cons_option o ys ++ zs
option_front None ys zs = refl
option_front (Some y) ys zs = refl

filter_more : {X Y : Type 0} (h : X → Option Y) (xs : List X) (x : X) → filter_map h (xs ++ x ∷ []) ≡ filter_map h xs ++ as_list (h x)
filter_more h [] x = one_option (h x)
filter_more h (y ∷ xs) x = ap (cons_option (h y)) (filter_more h xs x) ∙ option_front (h y) (filter_map h xs) (as_list (h x))

option_length : {Y : Type 0} (o : Option Y) (ys : List Y) → length (cons_option o ys) ≤ length ys + 1
option_length None ys = omega arith
option_length (Some y) ys = omega arith

filter_length : {X Y : Type 0} (h : X → Option Y) (xs : List X) → length (filter_map h xs) ≤ length xs
filter_length h [] = omega arith
filter_length h (x ∷ xs) = omega (arith, option_length (h x) (filter_map h xs), filter_length h xs)

-- ---- the loop

-- THOSE SO FAR were parted, and there is room for so many.
pub record IsParting (count : ℕ) (done : List Back) (p : Parted) : Type 0 where
  pub parted : ArePartedFrom done p
  pub passes : count ≤ vec_capacity p.passes
  pub seats : count ≤ vec_capacity p.seats
  pub jobs : count ≤ vec_capacity p.jobs
  pub filled : count ≤ vec_capacity p.filled

pub parting_first : (count : ℕ) (room : Parted) → IsRoom count room → IsParting count [] room
parting_first count room is = record {
  parted = record { passes = is.no_pass; seats = is.no_seat; jobs = is.no_job; filled = is.no_filled };
  passes = is.passes;
  seats = is.seats;
  jobs = is.jobs;
  filled = is.filled;
}

pub parting_room : (count : ℕ) (done : List Back) (p : Parted) → IsParting count done p → length done < count → HasRoom p
parting_room count done p is below = record {
  passes = omega (arith, below, is.passes, ap length is.parted.passes, length-map done (λ (b : Back). b.own.pass));
  seats = omega (arith, below, is.seats, ap length is.parted.seats, length-map done (λ (b : Back). b.own.seat));
  jobs = omega (arith, below, is.jobs, ap length is.parted.jobs, filter_length (λ (b : Back). job_left b.worked) done);
  filled = omega (arith, below, is.filled, ap length is.parted.filled, filter_length (λ (b : Back). filled_left b.worked) done);
}

pub parting_more : (count : ℕ) (done : List Back) (old new : Parted) (back : Back) → IsParting count done old → IsPartedMore back old new → IsParting count (done ++ back ∷ []) new
parting_more count done old new back is more = record {
  parted = record {
    passes = more.passes ∙ (ap (λ (xs : List (PassView Held HandView)). xs ++ back.own.pass ∷ []) is.parted.passes ∙ sym (map_more (λ (b : Back). b.own.pass) done back));
    seats = more.seats ∙ (ap (λ (xs : List SeatView). xs ++ back.own.seat ∷ []) is.parted.seats ∙ sym (map_more (λ (b : Back). b.own.seat) done back));
    jobs = more.jobs ∙ (ap (λ (xs : List JobView). xs ++ as_list (job_left back.worked)) is.parted.jobs ∙ sym (filter_more (λ (b : Back). job_left b.worked) done back));
    filled = more.filled ∙ (ap (λ (xs : List FilledView). xs ++ as_list (filled_left back.worked)) is.parted.filled ∙ sym (filter_more (λ (b : Back). filled_left b.worked) done back));
  };
  passes = omega (arith, is.passes, more.passes_room);
  seats = omega (arith, is.seats, more.seats_room);
  jobs = omega (arith, is.jobs, more.jobs_room);
  filled = omega (arith, is.filled, more.filled_room);
}

-- one more stands there than those before it
pub below_all : {X : Type 0} (all done rest : List X) (x : X) → all ≡ done ++ x ∷ rest → length done < length all
below_all all done rest x is = omega (arith, ap length is, length-append done (x ∷ rest))
