-- What contracts see of the adapters over readers and writers of std.
use Rattle.std.specs.Prelude.{ℕ, ◌⊎◌, Option, List, take}
use Rattle.std.specs.Io.KnownBytes.{Appends, Keeps}
use Rattle.text_io.specs.declared.std_source.StdSource.{StdSource}
use Rattle.text_io.specs.declared.std_sink.StdSink.{StdSink}

-- The reader that a source reads.
abbrev pub reader_of : {R : Type 0} → StdSource R → R
reader_of s = s.reader

-- The source's count of faults.
abbrev pub reader_faults : {R : Type 0} → StdSource R → ℕ
reader_faults s = s.faults

-- The writer that a sink writes to.
abbrev pub writer_of : {W : Type 0} → StdSink W → W
writer_of s = s.writer

-- The sink's count of faults.
abbrev pub writer_faults : {W : Type 0} → StdSink W → ℕ
writer_faults s = s.faults

-- What a writer held and holds is the same, or grew by a front of this piece.
abbrev pub HasFront : Option (List ℕ) → Option (List ℕ) → List ℕ → Type 0
HasFront old new piece = Keeps old new ⊎ ((k : ℕ) × Appends old new (take k piece))
