-- What `top` promises: of every call, and then of each command by one record. Each of these has a file of its own, in the crate of its
-- command. This project's own, docs/PROGRAM.md, "The program".
--
-- A record speaks of two worlds (`cli_base`: specs/World): the input, the random source, the disk and the output, as each was when the call
-- began (`before`) and as it is when the call ends (`after`). What is told of an object is a word of its trait (`see`), at one of the two:
-- `see.disks.shown after.disk` is what the disk shows behind the call. An object that tells nothing of itself is promised nothing that
-- speaks of what it tells.
pub use Rattle.cli_base.specs.Promises.Any
pub use Rattle.cli_heads.specs.Promises.Asking
pub use Rattle.cli_heads.specs.Promises.Checking
pub use Rattle.cli_reading.specs.Promises.Audit
pub use Rattle.cli_making.specs.Promises.Gen
pub use Rattle.cli_running.specs.Promises.HeldRun
pub use Rattle.cli_reading.specs.Promises.List
pub use Rattle.cli_making.specs.Promises.Make
pub use Rattle.cli_reading.specs.Promises.Open
pub use Rattle.cli_reading.specs.Promises.Reading
pub use Rattle.cli_running.specs.Promises.Run
pub use Rattle.cli_serving.specs.Promises.Serve
pub use Rattle.cli_base.specs.Promises.Text
pub use Rattle.cli_upgrading.specs.Promises.HeldUpgrade
pub use Rattle.cli_upgrading.specs.Promises.Upgrade
