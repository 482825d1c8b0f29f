-- From the answer to a command to what the words say.
use Rattle.std.proofs.Common.{◌≡◌, ◌⊎◌, ℕ, List, Option, Some, None, option_map, sym, ◌∙◌, ap, subst, inl, inr}
use Rattle.outside.specs.Outside.{FileList}
use Rattle.command_line.specs.declared.commands.commands.Command as words
use Rattle.command_line.specs.Command.{Command, command_of}
use Rattle.command_line.specs.Seen.{seen}
use Rattle.command_line.specs.declared.statuses.statuses.Status.{Status}
use Rattle.split_top.specs.Jobs.{IsAnswer}
use Rattle.split_top.specs.Top.{BreaksGrammar, BreaksRule, Completes, IsCutShort, IsDone, IsMissing, IsReplacedBy, IsTold, MayFail, Replaces, Says}

-- the command that was read
pub command-is : (line : List (List ℕ)) (r : Option words.Command) (x : words.Command) → option_map (λ (c : words.Command). seen c) r ≡ command_of line → r ≡ Some x → command_of line ≡ Some (seen x)
command-is line r x read is = sym read ∙ ap (option_map (λ (c : words.Command). seen c)) is

module _ (line : List (List ℕ)) (c : Command) (is : command_of line ≡ Some c) (files left : Option FileList) (old new : Option (List ℕ)) (Missed Failed Refused : Type 0) (status : Status) (a : IsAnswer c files left old new Missed Failed Refused status) where
  pub told-usage : (status ≡ Status.Usage → command_of line ≡ None) × (command_of line ≡ None → status ≡ Status.Usage)
  told-usage = (λ e. absurd (a.usage e), λ none. absurd (let f : ⊥ = cc (is, none) in f))

  pub told-missing : (name : List ℕ) → status ≡ Status.NoSuchFile name → Says line (λ d. IsMissing d files name) × Missed
  told-missing name e = (record { command = c; is_command = is; holds = (a.no_such_file name e).0 }, (a.no_such_file name e).1)

  pub told-bad_image : (rule place : ℕ) → status ≡ Status.BadImage rule place → Says line (λ d. BreaksRule d files rule place)
  told-bad_image rule place e = record { command = c; is_command = is; holds = a.bad_image rule place e }

  pub told-bad_script : (n : ℕ) → status ≡ Status.BadScript n → Says line (λ d. BreaksGrammar d files n)
  told-bad_script n e = record { command = c; is_command = is; holds = a.bad_script n e }

  pub told-read_fault : status ≡ Status.ReadFault → Says line (λ d. MayFail d files) × Failed
  told-read_fault e = (record { command = c; is_command = is; holds = (a.read_fault e).0 }, (a.read_fault e).1)

  pub told-write_fault : status ≡ Status.WriteFault → Refused ⊎ Says line (λ d. Replaces d × Failed)
  told-write_fault e = elim (a.write_fault e) [ inl refused ↦ inl refused | inr x ↦ inr (record { command = c; is_command = is; holds = x }) ]

  pub told-done : status ≡ Status.Done → Says line (λ d. IsDone d files left old new)
  told-done e = record { command = c; is_command = is; holds = a.done e }

  pub told-files : (left ≡ files) ⊎ Says line (λ d. IsReplacedBy d files left)
  told-files = elim a.kept [ inl same ↦ inl same | inr by ↦ inr (record { command = c; is_command = is; holds = by }) ]

  pub told-front : (status ≡ Status.WriteFault) ⊎ (status ≡ Status.NoMemory) → ((left ≡ files) × (new ≡ old)) ⊎ Says line (λ d. IsCutShort d files left old new)
  told-front e = elim (a.front e) [ inl same ↦ inl same | inr short ↦ inr (record { command = c; is_command = is; holds = short }) ]

  pub told-complete : (d : Command) → command_of line ≡ Some d → ¬ Failed → ¬ Refused → Completes d files status
  told-complete d other failed refused =
      let same : c ≡ d = cc (is, other) in
      subst (λ x. Completes x files status) same (a.complete failed refused)

  -- ALL OF IT
  pub is-told : IsTold line files left old new Missed Failed Refused status
  is-told = record {
    usage = told-usage;
    no_such_file = told-missing;
    bad_image = told-bad_image;
    bad_script = told-bad_script;
    read_fault = told-read_fault;
    write_fault = told-write_fault;
    done = told-done;
    kept = told-files;
    front = told-front;
    nothing = a.nothing;
    complete = told-complete;
  }
