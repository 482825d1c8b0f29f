-- The worked rows on who waits and what is logged, by computation.
use Rattle.std.specs.Prelude.{refl}
use Rattle.posix_laws.specs.posix_tables.Names.{height, node_at_path, walk, with_entry}
use Rattle.posix_laws.specs.posix_tables.NameRows.{open_rows}
use Rattle.posix_laws.specs.posix_tables.Open.{binding_of, key_of, opened, with_binding, with_descriptor, with_offset, with_opened}
use Rattle.posix_laws.specs.posix_spec.FileRows.{write_rows}
use Rattle.posix_laws.specs.posix_spec.Put.{put_by}
use Rattle.posix_laws.specs.posix_spec.State.{made, with_file}
use Rattle.posix_laws.specs.posix_spec.Step.{open_done, opening, write_done, written}
use Rattle.crash_spec.specs.Busy.{is_busy, waits_for}
use Rattle.crash_spec.specs.BusyRows.{WhatIsLogged, WhoWaits}

pub who_waits : WhoWaits
unfolding with_entry walk node_at_path height open_rows binding_of key_of opened with_binding with_descriptor with_offset with_opened with_file made write_rows open_done opening write_done written is_busy waits_for
who_waits = record {
  mkdir = refl;
  rmdir = refl;
  unlink = refl;
  rename = refl;
  open_that_keeps = refl;
  open_that_cuts = refl;
  refused_open_that_cuts = refl;
  close = refl;
  dup = refl;
  read = refl;
  pread = refl;
  write = refl;
  pwrite = refl;
  seek = refl;
  truncate = refl;
  fsync = refl;
  stat = refl;
  list = refl;
  other_file = refl;
  other_path = refl;
  unknown_handle = refl;
  long_path = refl;
  its_own = refl;
}

pub what_is_logged : WhatIsLogged
unfolding with_entry walk node_at_path height open_rows binding_of key_of opened with_binding with_descriptor with_offset with_opened with_file made write_rows put_by open_done opening write_done written
what_is_logged = record {
  strict_overwrite = refl;
  strict_append = refl;
  sync_overwrite = refl;
  sync_append = refl;
  posix_append = refl;
  nothing_written = refl;
  refused = refl;
  truncate = refl;
}
