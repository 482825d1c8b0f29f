-- The grammar, in rows.
use Rattle.std.specs.Prelude.{◌≡◌, [], ◌∷◌, ◌++◌, codes, replicate, true, false, Some, None, pos, negsuc, is_some}
use Rattle.posix_types.specs.declared.call.Call.{Call}
use Rattle.posix_types.specs.declared.handle.Whence.{Whence}
use Rattle.script_text.specs.declared.kinds.Kind.TheVariants.{Calls, Passed, SetUp, Thread}
use Rattle.script_text.specs.Calls.{call_in}
use Rattle.script_text.specs.Lines.{words_of}
use Rattle.script_text.specs.Scripts.{bad_line, breaks, first_bad, scripts_in, scripts_of}
use Rattle.script_text.specs.Words.{data_in, flags_in, handle_in, number_in, path_in, signed_in, whence_in}

-- 1 to 18 digits, none before them and no zero in front; a minus sign before them in a signed number, and `-0` is 0
abbrev pub NumberRows : Type 0
NumberRows =
    (number_in (codes "0") ≡ Some 0) × (number_in (codes "907") ≡ Some 907) × (number_in (codes "999999999999999999") ≡ Some 999999999999999999)
    × (number_in (codes "1000000000000000000") ≡ None) × (number_in (codes "01") ≡ None) × (number_in (codes "00") ≡ None)
    × (number_in [] ≡ None) × (number_in (codes "+1") ≡ None) × (number_in (codes "-1") ≡ None) × (number_in (codes "1a") ≡ None)
    × (signed_in (codes "7") ≡ Some (pos 7)) × (signed_in (codes "-7") ≡ Some (negsuc 6)) × (signed_in (codes "-0") ≡ Some (pos 0))
    × (signed_in (codes "-") ≡ None) × (signed_in (codes "--5") ≡ None) × (signed_in (codes "-00") ≡ None) × (signed_in [] ≡ None)

-- the slash alone, or each name behind one; a name may begin with dots and have any length
abbrev pub PathRows : Type 0
PathRows =
    (path_in (codes "/") ≡ Some []) × (path_in (codes "/a/b") ≡ Some (codes "a" ∷ codes "b" ∷ []))
    × (path_in (codes "/.a/...") ≡ Some (codes ".a" ∷ codes "..." ∷ []))
    × (path_in (47 ∷ replicate 50 97) ≡ Some (replicate 50 97 ∷ []))
    × (path_in (codes "//") ≡ None) × (path_in (codes "/a/") ≡ None) × (path_in (codes "/a//b") ≡ None)
    × (path_in (codes "/.") ≡ None) × (path_in (codes "/..") ≡ None) × (path_in (codes "/a/../b") ≡ None)
    × (path_in (codes "a") ≡ None) × (path_in [] ≡ None)

-- 1 to 8 small letters or digits
abbrev pub HandleRows : Type 0
HandleRows =
    (handle_in (codes "a1") ≡ Some (record { len = 2; bytes = 97 ∷ 49 ∷ 0 ∷ 0 ∷ 0 ∷ 0 ∷ 0 ∷ 0 ∷ [] }))
    × (is_some (handle_in (codes "abcdefgh")) ≡ true)
    × (handle_in (codes "abcdefghi") ≡ None) × (handle_in (codes "A") ≡ None) × (handle_in (codes "a_") ≡ None) × (handle_in [] ≡ None)

-- in this order, each once, for reading or writing, `x` with `c` and `t` with `w`
abbrev pub FlagRows : Type 0
FlagRows =
    (flags_in (codes "r") ≡ Some (record { read = true; write = false; append = false; create = false; exclusive = false; truncate = false }))
    × (flags_in (codes "rwacxt") ≡ Some (record { read = true; write = true; append = true; create = true; exclusive = true; truncate = true }))
    × (flags_in (codes "ra") ≡ Some (record { read = true; write = false; append = true; create = false; exclusive = false; truncate = false }))
    × (flags_in (codes "rr") ≡ None) × (flags_in (codes "wr") ≡ None) × (flags_in (codes "xr") ≡ None) × (flags_in (codes "c") ≡ None)
    × (flags_in (codes "rx") ≡ None) × (flags_in (codes "rt") ≡ None) × (flags_in (codes "rwo") ≡ None) × (flags_in [] ≡ None)
    × (whence_in (codes "end") ≡ Some Whence.End) × (whence_in (codes "End") ≡ None)

-- no bytes, pairs of digits, or a byte and how often
abbrev pub DataRows : Type 0
DataRows =
    (data_in (codes "-") ≡ Some []) × (data_in (codes "00ff6a") ≡ Some (0 ∷ 255 ∷ 106 ∷ [])) × (data_in (codes "61*3") ≡ Some (97 ∷ 97 ∷ 97 ∷ []))
    × (data_in (codes "616") ≡ None) × (data_in (codes "6A") ≡ None) × (data_in [] ≡ None) × (data_in (codes "--") ≡ None)
    × (data_in (codes "61*0") ≡ None) × (data_in (codes "61*05") ≡ None) × (data_in (codes "61*") ≡ None) × (data_in (codes "6*3") ≡ None)
    × (data_in (codes "6161*2") ≡ None) × (data_in (codes "61*1048577") ≡ None)

-- blanks part words, in front of them and behind them too; a call has its words and no more
abbrev pub CallRows : Type 0
CallRows =
    (words_of (codes "  rename /a   /b ") ≡ codes "rename" ∷ codes "/a" ∷ codes "/b" ∷ [])
    × (call_in (words_of (codes "rename /a /")) ≡ Some (Call.Rename (codes "a" ∷ []) []))
    × (call_in (words_of (codes "seek h cur -3")) ≡ Some (Call.Seek (record { len = 1; bytes = 104 ∷ 0 ∷ 0 ∷ 0 ∷ 0 ∷ 0 ∷ 0 ∷ 0 ∷ [] }) Whence.Cur (negsuc 2)))
    × (call_in (words_of (codes "mkdir /a /b")) ≡ None) × (call_in (words_of (codes "mkdir")) ≡ None) × (call_in (words_of (codes "rename /a")) ≡ None)
    × (call_in (words_of (codes "open h /a rw c")) ≡ None) × (call_in (words_of (codes "Mkdir /a")) ≡ None)

-- lines: comments and blank lines are counted, byte 13 may stand only before byte 10, and the last line may lack that
abbrev pub LineRows : Type 0
LineRows =
    (bad_line [] ≡ None) × (bad_line (codes "mkdir /a") ≡ None) × (bad_line (codes "mkdir /a\n") ≡ None)
    × (bad_line (codes "# made\nmkdirs /a\n") ≡ Some 2) × (bad_line (codes "\n  \n #x\nmkdir a\n") ≡ Some 4) × (bad_line (codes "mkdir\nmkdir\n") ≡ Some 1)
    × (bad_line (codes "mkdir /a" ++ 13 ∷ 10 ∷ []) ≡ None) × (bad_line (13 ∷ 10 ∷ []) ≡ None)
    × (bad_line (codes "mkdir /a" ++ 13 ∷ []) ≡ Some 1) × (bad_line (codes "mkdir /a" ++ 13 ∷ 13 ∷ 10 ∷ []) ≡ Some 1)
    × (bad_line (codes "mkdir" ++ 13 ∷ codes " /a\n") ≡ Some 1) × (bad_line (codes "# a" ++ 13 ∷ codes "b\n") ≡ Some 1)
    × (bad_line (codes "#" ++ 9 ∷ []) ≡ Some 1) × (bad_line (32 ∷ 127 ∷ 10 ∷ []) ≡ Some 1)
    × (scripts_of (codes "# two\n\nmkdir /a\n  rmdir  /a") ≡ record { setup = []; threads = (Call.Mkdir (codes "a" ∷ []) ∷ Call.Rmdir (codes "a" ∷ []) ∷ []) ∷ [] })

-- headings: `setup` once and first, 8 threads, with a heading or without for the first
abbrev pub HeadingRows : Type 0
HeadingRows =
    (first_bad (Passed ∷ SetUp ∷ Thread ∷ []) ≡ None) × (first_bad (SetUp ∷ SetUp ∷ []) ≡ Some 2)
    × (first_bad (Thread ∷ SetUp ∷ []) ≡ Some 2) × (first_bad (Calls (Call.Mkdir []) ∷ SetUp ∷ []) ≡ Some 2)
    × (first_bad (SetUp ∷ replicate 8 Thread) ≡ None) × (first_bad (SetUp ∷ replicate 9 Thread) ≡ Some 10)
    × (first_bad (Calls (Call.Mkdir []) ∷ replicate 7 Thread) ≡ None) × (first_bad (Calls (Call.Mkdir []) ∷ replicate 8 Thread) ≡ Some 9)
    × (scripts_in (Calls (Call.Mkdir []) ∷ Thread ∷ Calls (Call.Rmdir []) ∷ [])
    ≡ record { setup = []; threads = (Call.Mkdir [] ∷ []) ∷ (Call.Rmdir [] ∷ []) ∷ [] })
    × (scripts_in (SetUp ∷ Calls (Call.Mkdir []) ∷ Thread ∷ Calls (Call.Rmdir []) ∷ Passed ∷ Thread ∷ [])
    ≡ record { setup = Call.Mkdir [] ∷ []; threads = (Call.Rmdir [] ∷ []) ∷ [] ∷ [] })

-- the 4,097th call, the set-up's counted
abbrev pub LimitRows : Type 0
LimitRows =
    (breaks (replicate 4095 (Calls (Call.Mkdir []))) (Calls (Call.Mkdir [])) ≡ false)
    × (breaks (replicate 4096 (Calls (Call.Mkdir []))) (Calls (Call.Mkdir [])) ≡ true)
    × (breaks (SetUp ∷ replicate 4000 (Calls (Call.Mkdir [])) ++ Thread ∷ replicate 96 (Calls (Call.Mkdir []))) (Calls (Call.Mkdir [])) ≡ true)
    × (breaks (replicate 4096 (Calls (Call.Mkdir []))) Passed ≡ false)
