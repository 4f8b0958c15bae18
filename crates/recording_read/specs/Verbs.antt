-- The index of a verb among the definition's verbs. Assumes nothing.
use Rattle.std.specs.Prelude.{ℕ}
use Rattle.std.specs.Prelude.{Option, Some, None}
use Rattle.recording_read.specs.declared.verbs.Verb.{Verb}
use Rattle.recording_read.specs.declared.verbs.Verb.TheVariants as V

abbrev pub number_of : Verb → ℕ
number_of V.Put = 0
number_of V.Get = 1
number_of V.Head = 2
number_of V.Delete = 3
number_of V.Copy = 4
number_of V.List = 5
number_of V.Initiate = 6
number_of V.Part = 7
number_of V.Commit = 8
number_of V.Abort = 9
number_of V.Uploads = 10

-- as many as there are where it is none
abbrev pub index_of : Option Verb → ℕ
index_of (Some v) = number_of v
index_of None = 11
