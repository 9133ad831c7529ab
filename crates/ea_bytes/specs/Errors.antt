-- Errors of std as faults of devices.
use Rattle.std.specs.declared.io.ErrorKind.{ErrorKind}
use Rattle.std.specs.declared.io.ErrorKind.TheVariants as kind
use Rattle.ea_bytes.specs.declared.device.DeviceFault.{DeviceFault}
use Rattle.ea_bytes.specs.declared.device.DeviceFault.TheVariants.{Interrupted, Failed}

-- An interruption is an error of that kind; each other error is a failure.
abbrev pub fault_by : ErrorKind → DeviceFault
fault_by kind.Interrupted = Interrupted
fault_by _ = Failed
