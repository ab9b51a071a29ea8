-- Why a runtime gives a program no words, and how a program ends without an order.
use Rattle.std.specs.declared.io.ErrorKind.{ErrorKind, TheVariants.{OutOfMemory}}
use Rattle.sh_sheet.specs.declared.status.Status.{Status}
use Rattle.sh_sheet.specs.declared.status.Status.TheVariants as status
use Rattle.sh_options.specs.declared.order.WordFault.{WordFault, TheVariants.{NoMemory, Usage}}

-- memory is wanting, or a word is no UTF-8
abbrev pub word_fault : ErrorKind → WordFault
word_fault OutOfMemory = NoMemory
word_fault _ = Usage

-- how a program ends whose words give no order
abbrev pub fault_status : WordFault → Status
fault_status Usage = status.Usage
fault_status NoMemory = status.NoMemory
