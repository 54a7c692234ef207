use Rattle.std.proofs.Common.{◌≡◌, ◌++◌, string_bytes, false}
use Rattle.serde_json.specs.Written.{members_text}
use Rattle.isp_bind.specs.Entries.{entries_members}
use Rattle.isp_bind.proofs.answers.push_arrays.Given as goal

abbrev pub invariant-loop-name : goal.invariant-loop-name
invariant-loop-name l =
    string_bytes l.text ++ members_text l.later (entries_members l.name-iterator)
    ≡ string_bytes l.initial.text ++ members_text false (entries_members l.named.entries)
