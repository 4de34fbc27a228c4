-- What a call of the program stands in, and how that is looked at. A promise speaks of two worlds: as the call begins, and as it ends.
-- Whatever else a call is handed is one field more in each of these records; what a promise says of the rest of a world
-- (`after ≡ record before { .. }`) then holds of that too.
use Rattle.cry_io.specs.declared.disk.Disk as disk
use Rattle.cry_io.specs.declared.streams.Sink as sink
use Rattle.cry_io.specs.declared.streams.Source as source

-- the input, the random source, the store's disk and the output, all at one moment
pub record World (S R D W : Type 0) : Type 0 where
  pub input : S
  pub random : R
  pub disk : D
  pub out : W

-- how a world is looked at: what is told of an object is a word of its trait
pub record Senses (S R D W : Type 0) : Type 1 where
  pub inputs : source.Ghosts S
  pub randoms : source.Ghosts R
  pub disks : disk.Ghosts D
  pub outs : sink.Ghosts W

abbrev pub world_of : {S R D W : Type 0} → S → R → D → W → World S R D W
world_of input random disk out = record { input = input; random = random; disk = disk; out = out }

abbrev pub senses_of : {S R D W : Type 0} → source.Ghosts S → source.Ghosts R → disk.Ghosts D → sink.Ghosts W → Senses S R D W
senses_of inputs randoms disks outs = record { inputs = inputs; randoms = randoms; disks = disks; outs = outs }
