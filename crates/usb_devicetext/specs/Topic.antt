-- The first words of lines.
use Rattle.std.specs.Prelude.{ℕ, List, codes, Option, Some, None, if◌then◌else◌}
use Rattle.std.specs.Str.{bytes_eq}
use Rattle.usb_devicetext.specs.declared.topic.Topic.{Topic}
use Rattle.usb_devicetext.specs.declared.topic.Topic.TheVariants.{Device, Script, Ids, Class, Descriptor, Text, Speed, Control, After, Leaves, Hidden, Anew, Lasts, Driver}

-- the topic of a word
unfoldable pub topic_of : List ℕ → Option Topic
topic_of word =
    if bytes_eq word (codes "device") then Some Device else
    if bytes_eq word (codes "script") then Some Script else
    if bytes_eq word (codes "ids") then Some Ids else
    if bytes_eq word (codes "class") then Some Class else
    if bytes_eq word (codes "descriptor") then Some Descriptor else
    if bytes_eq word (codes "string") then Some Text else
    if bytes_eq word (codes "speed") then Some Speed else
    if bytes_eq word (codes "control") then Some Control else
    if bytes_eq word (codes "after") then Some After else
    if bytes_eq word (codes "leaves") then Some Leaves else
    if bytes_eq word (codes "hidden") then Some Hidden else
    if bytes_eq word (codes "anew") then Some Anew else
    if bytes_eq word (codes "lasts") then Some Lasts else
    if bytes_eq word (codes "driver") then Some Driver else
    None
